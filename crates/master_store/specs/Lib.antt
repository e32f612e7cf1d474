-- Read Masters: an account of the masters that a run has written, and what a crash leaves of them. Laws has how an account begins.
pub mod Masters
pub mod Laws
-- Passed on to the crates above.
pub use Rattle.page_store.specs as page_store
pub use Rattle.page_store.specs.btree_node as btree_node
pub use Rattle.page_store.specs.disk_image as disk_image
pub use Rattle.page_store.specs.disk_slots as disk_slots
pub use Rattle.page_store.specs.image_model as image_model
pub use Rattle.page_store.specs.log_block as log_block
pub use Rattle.page_store.specs.log_record as log_record
