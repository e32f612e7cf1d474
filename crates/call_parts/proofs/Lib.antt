pub mod RunLemmas
pub mod SightLemmas
pub mod AreaLemmas
pub mod StepLemmas
pub mod OwnLemmas
pub mod StillLemmas
pub mod JoinLemmas
pub mod MemoryLemmas
pub mod EndLemmas
pub mod ByHand
-- Passed on to the crates above.
pub use Rattle.session_state.proofs as session_state
pub use Rattle.session_state.proofs.core_calls as core_calls
pub use Rattle.session_state.proofs.core_commit as core_commit
pub use Rattle.session_state.proofs.core_crash as core_crash
pub use Rattle.session_state.proofs.core_disk as core_disk
pub use Rattle.session_state.proofs.core_state as core_state
pub use Rattle.session_state.proofs.disk_runs as disk_runs
pub use Rattle.session_state.proofs.engine_calls as engine_calls
pub use Rattle.session_state.proofs.image_model as image_model
pub use Rattle.session_state.proofs.log_record as log_record
pub use Rattle.session_state.proofs.row_words as row_words
pub use Rattle.session_state.proofs.run_crashes as run_crashes
