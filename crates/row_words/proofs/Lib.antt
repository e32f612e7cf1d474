pub mod Frames
pub mod Stays
pub mod Controls
pub mod SealedLemmas
-- Passed on to the crates above.
pub use Rattle.btree_node.proofs as btree_node
