-- Read Calls; Steps has words of private functions.
pub mod Calls
pub mod Steps
-- Passed on to the crates above.
pub use Rattle.paged_calls.specs as paged_calls
pub use Rattle.paged_calls.specs.call_parts as call_parts
pub use Rattle.paged_calls.specs.core_calls as core_calls
pub use Rattle.paged_calls.specs.core_commit as core_commit
pub use Rattle.paged_calls.specs.core_crash as core_crash
pub use Rattle.paged_calls.specs.core_disk as core_disk
pub use Rattle.paged_calls.specs.core_state as core_state
pub use Rattle.paged_calls.specs.disk_image as disk_image
pub use Rattle.paged_calls.specs.disk_runs as disk_runs
pub use Rattle.paged_calls.specs.disk_slots as disk_slots
pub use Rattle.paged_calls.specs.engine_calls as engine_calls
pub use Rattle.paged_calls.specs.engine_trait as engine_trait
pub use Rattle.paged_calls.specs.image_model as image_model
pub use Rattle.paged_calls.specs.log_block as log_block
pub use Rattle.paged_calls.specs.log_record as log_record
pub use Rattle.paged_calls.specs.page_calls as page_calls
pub use Rattle.paged_calls.specs.page_provider as page_provider
pub use Rattle.paged_calls.specs.page_store as page_store
pub use Rattle.paged_calls.specs.paged_desks as paged_desks
pub use Rattle.paged_calls.specs.paged_rows as paged_rows
pub use Rattle.paged_calls.specs.row_ends as row_ends
pub use Rattle.paged_calls.specs.row_opening as row_opening
pub use Rattle.paged_calls.specs.row_words as row_words
pub use Rattle.paged_calls.specs.rows_trait as rows_trait
pub use Rattle.paged_calls.specs.run_crashes as run_crashes
pub use Rattle.paged_calls.specs.session_desks as session_desks
pub use Rattle.paged_calls.specs.session_state as session_state
pub use Rattle.paged_calls.specs.worker_log as worker_log
