-- Read Calls: in which run a machine stands, and what a call did in each. Steps, Changes, Growths, Rounds, Tidyings and Tests have words of private functions.
pub mod Calls
pub mod Steps
pub mod Changes
pub mod Growths
pub mod Rounds
pub mod Tidyings
pub mod Tests
-- Passed on to the crates above.
pub use Rattle.paged_desks.specs as paged_desks
pub use Rattle.paged_desks.specs.call_parts as call_parts
pub use Rattle.paged_desks.specs.core_calls as core_calls
pub use Rattle.paged_desks.specs.core_commit as core_commit
pub use Rattle.paged_desks.specs.core_crash as core_crash
pub use Rattle.paged_desks.specs.core_disk as core_disk
pub use Rattle.paged_desks.specs.core_index as core_index
pub use Rattle.paged_desks.specs.core_paging as core_paging
pub use Rattle.paged_desks.specs.core_state as core_state
pub use Rattle.paged_desks.specs.disk_image as disk_image
pub use Rattle.paged_desks.specs.disk_runs as disk_runs
pub use Rattle.paged_desks.specs.disk_slots as disk_slots
pub use Rattle.paged_desks.specs.engine_calls as engine_calls
pub use Rattle.paged_desks.specs.engine_trait as engine_trait
pub use Rattle.paged_desks.specs.image_model as image_model
pub use Rattle.paged_desks.specs.log_block as log_block
pub use Rattle.paged_desks.specs.log_record as log_record
pub use Rattle.paged_desks.specs.page_calls as page_calls
pub use Rattle.paged_desks.specs.page_pool as page_pool
pub use Rattle.paged_desks.specs.page_provider as page_provider
pub use Rattle.paged_desks.specs.page_store as page_store
pub use Rattle.paged_desks.specs.paged_rows as paged_rows
pub use Rattle.paged_desks.specs.row_opening as row_opening
pub use Rattle.paged_desks.specs.row_words as row_words
pub use Rattle.paged_desks.specs.rows_trait as rows_trait
pub use Rattle.paged_desks.specs.run_crashes as run_crashes
pub use Rattle.paged_desks.specs.session_desks as session_desks
pub use Rattle.paged_desks.specs.session_state as session_state
pub use Rattle.paged_desks.specs.worker_log as worker_log
pub use Rattle.row_room.specs.row_changes as row_changes
pub use Rattle.row_room.specs.row_ends as row_ends
