-- Of what a session has read Held, Free, Undo, Reserves and Numbers; then Holds, what is so between two calls, with Ties and Others; then Syncs and Opened. Staging says what comes
-- of a record.
pub mod Held
pub mod Free
pub mod Undo
pub mod Reserves
pub mod Numbers
pub mod Holds
pub mod Others
pub mod Ties
pub mod Staging
pub mod Syncs
pub mod Opened
-- Passed on to the crates above.
pub use Rattle.btree_descent.specs as btree_descent
pub use Rattle.btree_descent.specs.core_commit as core_commit
pub use Rattle.btree_descent.specs.core_index as core_index
pub use Rattle.btree_descent.specs.core_paging as core_paging
pub use Rattle.btree_descent.specs.core_state as core_state
pub use Rattle.btree_descent.specs.draw_trait as draw_trait
pub use Rattle.btree_descent.specs.image_model as image_model
pub use Rattle.btree_descent.specs.lean_proto as lean_proto
pub use Rattle.btree_descent.specs.log_record as log_record
pub use Rattle.btree_descent.specs.row_words as row_words
pub use Rattle.btree_descent.specs.rows_trait as rows_trait
pub use Rattle.core_covers.specs as core_covers
pub use Rattle.core_numbers.specs as core_numbers
pub use Rattle.engine_calls.specs as engine_calls
pub use Rattle.engine_calls.specs.core_calls as core_calls
pub use Rattle.engine_calls.specs.core_crash as core_crash
pub use Rattle.engine_calls.specs.core_disk as core_disk
pub use Rattle.engine_calls.specs.disk_image as disk_image
pub use Rattle.engine_calls.specs.disk_runs as disk_runs
pub use Rattle.engine_calls.specs.disk_slots as disk_slots
pub use Rattle.engine_calls.specs.log_block as log_block
pub use Rattle.engine_calls.specs.log_calls as log_calls
pub use Rattle.engine_calls.specs.master_store as master_store
pub use Rattle.engine_calls.specs.page_store as page_store
pub use Rattle.engine_calls.specs.run_crashes as run_crashes
pub use Rattle.engine_calls.specs.worker_log as worker_log
pub use Rattle.engine_trait.specs as engine_trait
pub use Rattle.engine_trait.specs.tidy_rules as tidy_rules
pub use Rattle.flush_avoidance.specs as flush_avoidance
pub use Rattle.key_locks.specs as key_locks
pub use Rattle.row_numbers.specs as row_numbers
pub use Rattle.row_opening.specs as row_opening
