pub mod PageLemmas
pub mod SyncLemmas
pub mod TightLemmas
-- Passed on to the crates above.
pub use Rattle.call_parts.proofs as call_parts
pub use Rattle.call_parts.proofs.core_calls as core_calls
pub use Rattle.call_parts.proofs.core_commit as core_commit
pub use Rattle.call_parts.proofs.core_crash as core_crash
pub use Rattle.call_parts.proofs.core_disk as core_disk
pub use Rattle.call_parts.proofs.core_state as core_state
pub use Rattle.call_parts.proofs.disk_runs as disk_runs
pub use Rattle.call_parts.proofs.engine_calls as engine_calls
pub use Rattle.call_parts.proofs.image_model as image_model
pub use Rattle.call_parts.proofs.log_record as log_record
pub use Rattle.call_parts.proofs.row_words as row_words
pub use Rattle.call_parts.proofs.run_crashes as run_crashes
pub use Rattle.call_parts.proofs.session_state as session_state
pub use Rattle.page_provider.proofs as page_provider
pub use Rattle.session_desks.proofs as session_desks
