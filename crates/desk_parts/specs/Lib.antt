-- Read Pages, a call of the pager as a part of a call of an engine; Syncs, a sync of all logs as one; then Laws. Tight: where syncs stand among the events of joined parts.
pub mod Pages
pub mod Syncs
pub mod Laws
pub mod Tight
-- Passed on to the crates above.
pub use Rattle.call_parts.specs as call_parts
pub use Rattle.call_parts.specs.btree_descent as btree_descent
pub use Rattle.call_parts.specs.core_calls as core_calls
pub use Rattle.call_parts.specs.core_commit as core_commit
pub use Rattle.call_parts.specs.core_crash as core_crash
pub use Rattle.call_parts.specs.core_disk as core_disk
pub use Rattle.call_parts.specs.core_index as core_index
pub use Rattle.call_parts.specs.core_numbers as core_numbers
pub use Rattle.call_parts.specs.core_paging as core_paging
pub use Rattle.call_parts.specs.core_state as core_state
pub use Rattle.call_parts.specs.disk_image as disk_image
pub use Rattle.call_parts.specs.disk_runs as disk_runs
pub use Rattle.call_parts.specs.disk_slots as disk_slots
pub use Rattle.call_parts.specs.draw_trait as draw_trait
pub use Rattle.call_parts.specs.engine_calls as engine_calls
pub use Rattle.call_parts.specs.engine_trait as engine_trait
pub use Rattle.call_parts.specs.image_model as image_model
pub use Rattle.call_parts.specs.key_locks as key_locks
pub use Rattle.call_parts.specs.lean_proto as lean_proto
pub use Rattle.call_parts.specs.log_block as log_block
pub use Rattle.call_parts.specs.log_calls as log_calls
pub use Rattle.call_parts.specs.log_record as log_record
pub use Rattle.call_parts.specs.master_store as master_store
pub use Rattle.call_parts.specs.page_calls as page_calls
pub use Rattle.call_parts.specs.page_store as page_store
pub use Rattle.call_parts.specs.row_numbers as row_numbers
pub use Rattle.call_parts.specs.row_opening as row_opening
pub use Rattle.call_parts.specs.row_words as row_words
pub use Rattle.call_parts.specs.rows_trait as rows_trait
pub use Rattle.call_parts.specs.run_crashes as run_crashes
pub use Rattle.call_parts.specs.session_state as session_state
pub use Rattle.call_parts.specs.worker_log as worker_log
pub use Rattle.page_provider.specs as page_provider
pub use Rattle.session_desks.specs as session_desks
