-- Of `format` read Words and Endings, behind disk_format's; of `run` Headline first, with Crashes; then Lines, Starts, Runs and Ends; of `make` Makes, behind workload_run's; of `dump` Dumps; of all of them Completeness. Inside has the words of private functions.
pub mod Words
pub mod Endings
pub mod Lines
pub mod Crashes
pub mod Headline
pub mod Runs
pub mod Starts
pub mod Ends
pub mod Dumps
pub mod Makes
pub mod Completeness
pub mod Inside
-- Passed on to the crates above.
pub use Rattle.buffered_engine.specs.call_parts as call_parts
pub use Rattle.buffered_engine.specs.core_calls as core_calls
pub use Rattle.buffered_engine.specs.core_crash as core_crash
pub use Rattle.buffered_engine.specs.core_state as core_state
pub use Rattle.buffered_engine.specs.disk_image as disk_image
pub use Rattle.buffered_engine.specs.disk_slots as disk_slots
pub use Rattle.buffered_engine.specs.engine_front as engine_front
pub use Rattle.buffered_engine.specs.engine_trait as engine_trait
pub use Rattle.buffered_engine.specs.image_model as image_model
pub use Rattle.buffered_engine.specs.lean_edge as lean_edge
pub use Rattle.buffered_engine.specs.log_block as log_block
pub use Rattle.buffered_engine.specs.log_record as log_record
pub use Rattle.buffered_engine.specs.paged_engine as paged_engine
pub use Rattle.buffered_engine.specs.recovery as recovery
pub use Rattle.buffered_engine.specs.worker_log as worker_log
pub use Rattle.script_lang.specs as script_lang
pub use Rattle.script_run.specs as script_run
pub use Rattle.transcripts.specs as transcripts
