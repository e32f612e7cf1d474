pub mod Naming
pub mod Keeping
-- Passed on to the crates above.
pub use Rattle.rows_trait.proofs as rows_trait
pub use Rattle.rows_trait.proofs.btree_node as btree_node
pub use Rattle.rows_trait.proofs.row_words as row_words
