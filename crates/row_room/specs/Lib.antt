-- Read Rooms, one change of the tree, and then Outcomes, one step of a put.
pub mod Rooms
pub mod Outcomes
-- Passed on to the crates above.
pub use Rattle.row_growth.specs as row_growth
pub use Rattle.row_growth.specs.btree_smo as btree_smo
pub use Rattle.row_growth.specs.row_changes as row_changes
pub use Rattle.row_tidying.specs as row_tidying
pub use Rattle.row_tidying.specs.row_ends as row_ends
