pub mod PieceLemmas
pub mod EventLemmas
pub mod GoingLemmas
pub mod Conflicts
pub mod TakingLemmas
pub mod PieceSteps
pub mod WarmLemmas
pub mod KeyLemmas
pub mod GetLemmas
pub mod RecordStands
pub mod ChangeStands
pub mod RoomLemmas
pub mod ChangeSteps
pub mod ChangeTests
pub mod ChangeRuns
pub mod ChangeWarms
pub mod DelLemmas
pub mod DelCalls
pub mod LikeLemmas
pub mod NoneLemmas
pub mod WayLemmas
pub mod MadeLemmas
pub mod FullLemmas
pub mod GrowthStands
pub mod GrowthRuns
pub mod PutWarms
pub mod PutLemmas
pub mod PutCalls
pub mod TidyRules
pub mod TidyPages
pub mod TidyStages
pub mod TidyEvents
pub mod TidyStands
pub mod TidyRuns
pub mod TidyWords
pub mod TidyLive
pub mod TidyWarms
pub mod TidyCalls
-- Passed on to the crates above.
pub use Rattle.paged_desks.proofs as paged_desks
pub use Rattle.paged_desks.proofs.call_parts as call_parts
pub use Rattle.paged_desks.proofs.core_calls as core_calls
pub use Rattle.paged_desks.proofs.core_commit as core_commit
pub use Rattle.paged_desks.proofs.core_crash as core_crash
pub use Rattle.paged_desks.proofs.core_disk as core_disk
pub use Rattle.paged_desks.proofs.core_state as core_state
pub use Rattle.paged_desks.proofs.disk_runs as disk_runs
pub use Rattle.paged_desks.proofs.engine_calls as engine_calls
pub use Rattle.paged_desks.proofs.image_model as image_model
pub use Rattle.paged_desks.proofs.row_words as row_words
pub use Rattle.paged_desks.proofs.run_crashes as run_crashes
pub use Rattle.paged_desks.proofs.session_desks as session_desks
pub use Rattle.paged_desks.proofs.session_state as session_state
