-- Read Clauses, then Begins, Puts, Commits, Aborts, Scans, Syncs, Refused and Halves; Answers for the answers alone, Parts for a call in parts, Runs for a whole run, Entries for the records, Places for sessions, Rows by hand.
pub mod Clauses
pub mod Parts
pub mod Moves
pub mod Begins
pub mod Puts
pub mod Commits
pub mod Aborts
pub mod Scans
pub mod Syncs
pub mod Refused
pub mod Halves
pub mod Answers
pub mod Runs
pub mod Entries
pub mod Places
pub mod Rows
-- Passed on to the crates above.
pub use Rattle.log_calls.specs as log_calls
pub use Rattle.run_crashes.specs as run_crashes
pub use Rattle.run_crashes.specs.core_calls as core_calls
pub use Rattle.run_crashes.specs.core_crash as core_crash
pub use Rattle.run_crashes.specs.core_disk as core_disk
pub use Rattle.run_crashes.specs.disk_image as disk_image
pub use Rattle.run_crashes.specs.disk_runs as disk_runs
pub use Rattle.run_crashes.specs.disk_slots as disk_slots
pub use Rattle.run_crashes.specs.log_block as log_block
pub use Rattle.run_crashes.specs.master_store as master_store
pub use Rattle.run_crashes.specs.page_store as page_store
pub use Rattle.run_crashes.specs.worker_log as worker_log
