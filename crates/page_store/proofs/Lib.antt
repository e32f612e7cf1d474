pub mod SlotLemmas
pub mod BaseLemmas
pub mod PieceLemmas
pub mod HeldLemmas
pub mod CrashLemmas
pub mod RunLemmas
-- Passed on to the crates above.
pub use Rattle.disk_image.proofs as disk_image
pub use Rattle.disk_image.proofs.disk_slots as disk_slots
pub use Rattle.disk_image.proofs.image_model as image_model
