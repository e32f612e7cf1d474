pub mod WalkLemmas
pub mod LookLemmas
pub mod CountLemmas
pub mod PassLemmas
pub mod LeafLemmas
pub mod NextLemmas
pub mod ScanLemmas
-- Passed on to the crates above.
pub use Rattle.paged_calls.proofs.core_calls as core_calls
pub use Rattle.paged_calls.proofs.core_commit as core_commit
pub use Rattle.paged_calls.proofs.core_crash as core_crash
pub use Rattle.paged_calls.proofs.core_disk as core_disk
pub use Rattle.paged_calls.proofs.core_state as core_state
pub use Rattle.paged_calls.proofs.disk_runs as disk_runs
pub use Rattle.paged_calls.proofs.image_model as image_model
pub use Rattle.paged_calls.proofs.paged_desks as paged_desks
pub use Rattle.paged_calls.proofs.run_crashes as run_crashes
pub use Rattle.paged_calls.proofs.session_desks as session_desks
pub use Rattle.paged_calls.proofs.session_state as session_state
