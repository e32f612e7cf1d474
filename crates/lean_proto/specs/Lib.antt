-- Read Ready, Purges, Writes, Changes, Over, Met, Kept and Controls in this order, and Paths and Paging by themselves; Inside has words of private
-- functions.
pub mod Ready
pub mod Purges
pub mod Writes
pub mod Changes
pub mod Over
pub mod Met
pub mod Kept
pub mod Controls
pub mod Paths
pub mod Still
pub mod Paging
pub mod Inside
-- Passed on to the crates above.
pub use Rattle.core_paging.specs as core_paging
pub use Rattle.core_paging.specs.core_commit as core_commit
pub use Rattle.core_paging.specs.core_state as core_state
pub use Rattle.core_paging.specs.image_model as image_model
pub use Rattle.version_latch.specs as version_latch
pub use Rattle.version_latch.specs.btree_node as btree_node
pub use Rattle.version_latch.specs.row_words as row_words
pub use Rattle.version_latch.specs.rows_trait as rows_trait
