-- Read Debts and Known; then Past and Invariants, of which Kinds says that each kind of event keeps them; then the others.
pub mod Debts
pub mod Known
pub mod Past
pub mod Invariants
pub mod Kinds
pub mod Rises
pub mod Floors
pub mod Holders
-- Passed on to the crates above.
pub use Rattle.core_state.specs as core_state
pub use Rattle.core_state.specs.image_model as image_model
