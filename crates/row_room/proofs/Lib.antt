pub mod FullLemmas
pub mod SpaceLemmas
pub mod StepLemmas
-- Passed on to the crates above.
pub use Rattle.row_growth.proofs.row_changes as row_changes
