mod CommandLemmas
mod CompletenessLemmas
mod Dumps
mod EndLemmas
mod MakeLemmas
mod NumberLemmas
mod PutLemmas
mod WordLemmas
mod Runs
-- Passed on to the crates above.
pub use Rattle.buffered_engine.proofs.core_calls as core_calls
pub use Rattle.buffered_engine.proofs.core_state as core_state
pub use Rattle.buffered_engine.proofs.image_model as image_model
