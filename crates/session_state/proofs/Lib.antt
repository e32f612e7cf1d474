pub mod Moments
pub mod Frames
pub mod EntryNumbers
pub mod UndoLemmas
pub mod ReserveLemmas
pub mod WaitLemmas
pub mod FirstLemmas
pub mod HoldLemmas
pub mod ServingLemmas
pub mod OtherLemmas
pub mod HeldLemmas
pub mod FreeLemmas
pub mod StageLemmas
pub mod SyncLemmas
pub mod CutLemmas
pub mod OpeningLemmas
-- Passed on to the crates above.
pub use Rattle.btree_descent.proofs as btree_descent
pub use Rattle.btree_descent.proofs.btree_node as btree_node
pub use Rattle.btree_descent.proofs.core_commit as core_commit
pub use Rattle.btree_descent.proofs.core_state as core_state
pub use Rattle.btree_descent.proofs.image_model as image_model
pub use Rattle.btree_descent.proofs.log_record as log_record
pub use Rattle.btree_descent.proofs.row_words as row_words
pub use Rattle.btree_descent.proofs.rows_trait as rows_trait
pub use Rattle.core_covers.proofs as core_covers
pub use Rattle.engine_calls.proofs as engine_calls
pub use Rattle.engine_calls.proofs.core_calls as core_calls
pub use Rattle.engine_calls.proofs.core_crash as core_crash
pub use Rattle.engine_calls.proofs.core_disk as core_disk
pub use Rattle.engine_calls.proofs.disk_runs as disk_runs
pub use Rattle.engine_calls.proofs.run_crashes as run_crashes
pub use Rattle.key_locks.proofs as key_locks
