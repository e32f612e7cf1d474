pub mod Lists
pub mod KindFacts
pub mod Nodes
pub mod History
pub mod Invariants
pub mod Events
pub mod Controls
pub mod Nexts
pub mod Copies
pub mod Fetched
pub mod Runs
pub mod Debts
pub mod Says
pub mod RiseLemmas
pub mod FloorLemmas
pub mod HolderLemmas
pub mod KindLemmas
pub mod KnownLemmas
-- Passed on to the crates above.
pub use Rattle.core_state.proofs as core_state
pub use Rattle.core_state.proofs.image_model as image_model
