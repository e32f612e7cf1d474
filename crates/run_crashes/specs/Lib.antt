-- Read Lines, then Laws.
pub mod Lines
pub mod Laws
-- Passed on to the crates above.
pub use Rattle.core_calls.specs as core_calls
pub use Rattle.disk_runs.specs as disk_runs
pub use Rattle.disk_runs.specs.core_crash as core_crash
pub use Rattle.disk_runs.specs.core_disk as core_disk
pub use Rattle.disk_runs.specs.core_state as core_state
pub use Rattle.disk_runs.specs.disk_image as disk_image
pub use Rattle.disk_runs.specs.disk_slots as disk_slots
pub use Rattle.disk_runs.specs.image_model as image_model
pub use Rattle.disk_runs.specs.log_block as log_block
pub use Rattle.disk_runs.specs.log_record as log_record
pub use Rattle.disk_runs.specs.master_store as master_store
pub use Rattle.disk_runs.specs.page_store as page_store
pub use Rattle.disk_runs.specs.worker_log as worker_log
