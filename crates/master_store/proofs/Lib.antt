pub mod SlotLemmas
pub mod AccountLemmas
pub mod WriteLemmas
pub mod ReadLemmas
-- Passed on to the crates above.
pub use Rattle.page_store.proofs as page_store
pub use Rattle.page_store.proofs.disk_image as disk_image
pub use Rattle.page_store.proofs.disk_slots as disk_slots
pub use Rattle.page_store.proofs.image_model as image_model
