pub mod Moments
pub mod Standing
pub mod Going
pub mod Syncing
pub mod Full
pub mod Doing
pub mod Warmth
pub mod Stops
pub mod Stopping
pub mod Breaking
pub mod Late
pub mod Losses
pub mod StandLemmas
pub mod AsideLemmas
pub mod HalfLates
pub mod EndingLemmas
-- Passed on to the crates above.
pub use Rattle.desk_parts.proofs.call_parts as call_parts
pub use Rattle.desk_parts.proofs.core_calls as core_calls
pub use Rattle.desk_parts.proofs.core_commit as core_commit
pub use Rattle.desk_parts.proofs.core_crash as core_crash
pub use Rattle.desk_parts.proofs.core_disk as core_disk
pub use Rattle.desk_parts.proofs.core_state as core_state
pub use Rattle.desk_parts.proofs.disk_runs as disk_runs
pub use Rattle.desk_parts.proofs.engine_calls as engine_calls
pub use Rattle.desk_parts.proofs.image_model as image_model
pub use Rattle.desk_parts.proofs.log_record as log_record
pub use Rattle.desk_parts.proofs.page_provider as page_provider
pub use Rattle.desk_parts.proofs.row_words as row_words
pub use Rattle.desk_parts.proofs.run_crashes as run_crashes
pub use Rattle.desk_parts.proofs.session_desks as session_desks
pub use Rattle.desk_parts.proofs.session_state as session_state
