-- Read Known, Named, Descents, Peeks, Nexts, Puts, Trails, Dels and Reaches in this order; Inside, Meets, Spots and DelSpots have words of
-- private functions alone.
pub mod Named
pub mod Known
pub mod Descents
pub mod Peeks
pub mod Nexts
pub mod Puts
pub mod Trails
pub mod Dels
pub mod Reaches
pub mod Inside
pub mod Meets
pub mod Spots
pub mod DelSpots
-- Passed on to the crates above.
pub use Rattle.core_index.specs as core_index
pub use Rattle.draw_trait.specs as draw_trait
pub use Rattle.lean_proto.specs as lean_proto
pub use Rattle.lean_proto.specs.btree_node as btree_node
pub use Rattle.lean_proto.specs.core_commit as core_commit
pub use Rattle.lean_proto.specs.core_paging as core_paging
pub use Rattle.lean_proto.specs.core_state as core_state
pub use Rattle.lean_proto.specs.image_model as image_model
pub use Rattle.lean_proto.specs.row_words as row_words
pub use Rattle.lean_proto.specs.rows_trait as rows_trait
pub use Rattle.lean_proto.specs.version_latch as version_latch
pub use Rattle.log_record.specs as log_record
pub use Rattle.swips.specs as swips
