pub mod TestLemmas
pub mod WordLemmas
pub mod PageSlotLemmas
pub mod MasterSlotLemmas
pub mod BlockInLemmas
pub mod RunLemmas
pub mod SealedLemmas
pub mod BreakLemmas
pub mod AgreementLemmas
-- Passed on to the crates above.
pub use Rattle.btree_node.proofs as btree_node
pub use Rattle.disk_slots.proofs as disk_slots
pub use Rattle.image_model.proofs as image_model
pub use Rattle.log_block.proofs as log_block
pub use Rattle.log_record.proofs as log_record
