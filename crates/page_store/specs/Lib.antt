-- Read Slots, then Bases, then Saved. Laws has what holds of pages that are saved, Runs how a run of calls saves them. Inside has the words of private functions.
pub mod Slots
pub mod Bases
pub mod Saved
pub mod Laws
pub mod Runs
pub mod Inside
-- Passed on to the crates above.
pub use Rattle.disk_image.specs as disk_image
pub use Rattle.disk_image.specs.btree_node as btree_node
pub use Rattle.disk_image.specs.disk_slots as disk_slots
pub use Rattle.disk_image.specs.image_model as image_model
pub use Rattle.disk_image.specs.log_block as log_block
pub use Rattle.disk_image.specs.log_record as log_record
