-- Read Memory, Areas and Parts; then Steps, what a step of a call shows, and Laws; then Rooms and Deeds, what a call did. ByHand is an example.
pub mod Memory
pub mod Areas
pub mod Parts
pub mod Steps
pub mod Rooms
pub mod Deeds
pub mod Laws
pub mod ByHand
-- Passed on to the crates above.
pub use Rattle.page_calls.specs as page_calls
pub use Rattle.session_state.specs as session_state
pub use Rattle.session_state.specs.btree_descent as btree_descent
pub use Rattle.session_state.specs.core_calls as core_calls
pub use Rattle.session_state.specs.core_commit as core_commit
pub use Rattle.session_state.specs.core_crash as core_crash
pub use Rattle.session_state.specs.core_disk as core_disk
pub use Rattle.session_state.specs.core_index as core_index
pub use Rattle.session_state.specs.core_numbers as core_numbers
pub use Rattle.session_state.specs.core_paging as core_paging
pub use Rattle.session_state.specs.core_state as core_state
pub use Rattle.session_state.specs.disk_image as disk_image
pub use Rattle.session_state.specs.disk_runs as disk_runs
pub use Rattle.session_state.specs.disk_slots as disk_slots
pub use Rattle.session_state.specs.draw_trait as draw_trait
pub use Rattle.session_state.specs.engine_calls as engine_calls
pub use Rattle.session_state.specs.engine_trait as engine_trait
pub use Rattle.session_state.specs.image_model as image_model
pub use Rattle.session_state.specs.key_locks as key_locks
pub use Rattle.session_state.specs.lean_proto as lean_proto
pub use Rattle.session_state.specs.log_block as log_block
pub use Rattle.session_state.specs.log_calls as log_calls
pub use Rattle.session_state.specs.log_record as log_record
pub use Rattle.session_state.specs.master_store as master_store
pub use Rattle.session_state.specs.page_store as page_store
pub use Rattle.session_state.specs.row_numbers as row_numbers
pub use Rattle.session_state.specs.row_opening as row_opening
pub use Rattle.session_state.specs.row_words as row_words
pub use Rattle.session_state.specs.rows_trait as rows_trait
pub use Rattle.session_state.specs.run_crashes as run_crashes
pub use Rattle.session_state.specs.worker_log as worker_log
