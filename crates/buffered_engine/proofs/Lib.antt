pub mod HalfMarks
pub mod OpenMarks
pub mod BeginLemmas
pub mod ScanLemmas
pub mod SeenLemmas
pub mod AbortTracks
pub mod AbortLemmas
pub mod DeedLemmas
pub mod AskLemmas
pub mod CallLemmas
pub mod TurnLemmas
pub mod TakeLemmas
pub mod DurableLemmas
pub mod CalmLemmas
pub mod AskingLemmas
pub mod WentLemmas
pub mod StateLemmas
pub mod ResultLemmas
pub mod NotedLemmas
pub mod OpenLemmas
-- Passed on to the crates above.
pub use Rattle.disk_format.proofs as disk_format
pub use Rattle.paged_scans.proofs.core_calls as core_calls
pub use Rattle.paged_scans.proofs.core_commit as core_commit
pub use Rattle.paged_scans.proofs.core_crash as core_crash
pub use Rattle.paged_scans.proofs.core_disk as core_disk
pub use Rattle.paged_scans.proofs.core_state as core_state
pub use Rattle.paged_scans.proofs.disk_runs as disk_runs
pub use Rattle.paged_scans.proofs.image_model as image_model
pub use Rattle.paged_scans.proofs.run_crashes as run_crashes
