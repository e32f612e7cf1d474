pub mod WarmLemmas
pub mod GrowthLemmas
pub mod ChangeLemmas
pub mod LiftLemmas
pub mod SplitLemmas
pub mod RoomLemmas
pub mod StepLemmas
-- Passed on to the crates above.
pub use Rattle.row_changes.proofs as row_changes
pub use Rattle.row_changes.proofs.session_state as session_state
