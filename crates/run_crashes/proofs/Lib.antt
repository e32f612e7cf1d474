pub mod ReopenLemmas
pub mod LineLemmas
pub mod PutLemmas
pub mod RunLemmas
-- Passed on to the crates above.
pub use Rattle.core_calls.proofs as core_calls
pub use Rattle.disk_runs.proofs as disk_runs
pub use Rattle.disk_runs.proofs.core_crash as core_crash
pub use Rattle.disk_runs.proofs.core_disk as core_disk
pub use Rattle.disk_runs.proofs.core_state as core_state
