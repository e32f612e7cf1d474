-- Read Calls, what a call says, and Openings, what an opening gives; States has the runs in which an engine stands, and Receipts when a commit is durable. Inside has the words of private functions.
pub mod States
pub mod Openings
pub mod Calls
pub mod Receipts
pub mod Inside
-- Passed on to the crates above.
pub use Rattle.disk_format.specs as disk_format
pub use Rattle.engine_front.specs as engine_front
pub use Rattle.group_commit.specs as group_commit
pub use Rattle.lean_edge.specs as lean_edge
pub use Rattle.paged_engine.specs as paged_engine
pub use Rattle.paged_scans.specs as paged_scans
pub use Rattle.paged_scans.specs.call_parts as call_parts
pub use Rattle.paged_scans.specs.core_calls as core_calls
pub use Rattle.paged_scans.specs.core_commit as core_commit
pub use Rattle.paged_scans.specs.core_crash as core_crash
pub use Rattle.paged_scans.specs.core_disk as core_disk
pub use Rattle.paged_scans.specs.core_state as core_state
pub use Rattle.paged_scans.specs.disk_image as disk_image
pub use Rattle.paged_scans.specs.disk_runs as disk_runs
pub use Rattle.paged_scans.specs.disk_slots as disk_slots
pub use Rattle.paged_scans.specs.engine_calls as engine_calls
pub use Rattle.paged_scans.specs.engine_trait as engine_trait
pub use Rattle.paged_scans.specs.image_model as image_model
pub use Rattle.paged_scans.specs.log_block as log_block
pub use Rattle.paged_scans.specs.log_record as log_record
pub use Rattle.paged_scans.specs.run_crashes as run_crashes
pub use Rattle.paged_scans.specs.worker_log as worker_log
pub use Rattle.recovery.specs as recovery
