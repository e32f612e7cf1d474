pub mod ComingLemmas
pub mod MomentLemmas
pub mod PartLemmas
pub mod MoveLemmas
pub mod MarkLemmas
pub mod BeginLemmas
pub mod UnlockLemmas
pub mod CommitLemmas
pub mod AbortLemmas
pub mod GetLemmas
pub mod PutLemmas
pub mod ScanLemmas
pub mod SyncLemmas
pub mod RefusalLemmas
pub mod HalfLemmas
pub mod AnswerLemmas
pub mod RunLemmas
pub mod PlaceLemmas
pub mod EntryLemmas
pub mod RowLemmas
-- Passed on to the crates above.
pub use Rattle.run_crashes.proofs as run_crashes
pub use Rattle.run_crashes.proofs.core_calls as core_calls
pub use Rattle.run_crashes.proofs.core_crash as core_crash
pub use Rattle.run_crashes.proofs.core_disk as core_disk
pub use Rattle.run_crashes.proofs.disk_runs as disk_runs
