-- Read Formats, Words, PageSlots, MasterSlots, Records, Blocks, Runs and Shown in this order; then Masters, Fair, Breaks and Laws.
pub mod Formats
pub mod Words
pub mod PageSlots
pub mod MasterSlots
pub mod Records
pub mod Blocks
pub mod Runs
pub mod Shown
pub mod Masters
pub mod Fair
pub mod Breaks
pub mod Laws
-- Passed on to the crates above.
pub use Rattle.btree_node.specs as btree_node
pub use Rattle.disk_slots.specs as disk_slots
pub use Rattle.image_model.specs as image_model
pub use Rattle.log_block.specs as log_block
pub use Rattle.log_record.specs as log_record
