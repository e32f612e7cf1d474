-- Read Layout, Moments, Openings and Words in this order, then Laws; Sealed has the same words for the crates above.
pub mod Layout
pub mod Moments
pub mod Openings
pub mod Words
pub mod Laws
pub mod Sealed
-- Passed on to the crates above.
pub use Rattle.btree_node.specs as btree_node
pub use Rattle.core_state.specs as core_state
