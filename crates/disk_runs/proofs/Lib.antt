pub mod SlotLemmas
pub mod HeadLemmas
pub mod LogLemmas
pub mod PageLemmas
pub mod MasterLemmas
pub mod StandLemmas
pub mod SaveLemmas
pub mod SaveStandLemmas
pub mod NextLemmas
pub mod CutLemmas
pub mod QuietLemmas
pub mod OpeningLemmas
pub mod EntryLemmas
pub mod LineLemmas
pub mod MomentLemmas
pub mod LastingLemmas
pub mod ReadLemmas
pub mod RefusalLemmas
pub mod RingLemmas
-- Passed on to the crates above.
pub use Rattle.core_disk.proofs as core_disk
pub use Rattle.core_disk.proofs.core_commit as core_commit
pub use Rattle.core_disk.proofs.core_crash as core_crash
pub use Rattle.core_disk.proofs.core_state as core_state
pub use Rattle.master_store.proofs as master_store
pub use Rattle.master_store.proofs.disk_image as disk_image
pub use Rattle.master_store.proofs.disk_slots as disk_slots
pub use Rattle.master_store.proofs.page_store as page_store
pub use Rattle.worker_log.proofs as worker_log
