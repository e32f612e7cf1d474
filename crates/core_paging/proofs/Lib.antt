pub mod Places
pub mod ResidenceKept
pub mod Saves
pub mod Epochs
pub mod Laws
pub mod LogLemmas
pub mod ByHand
-- Passed on to the crates above.
pub use Rattle.core_commit.proofs as core_commit
pub use Rattle.core_commit.proofs.core_state as core_state
pub use Rattle.core_commit.proofs.image_model as image_model
