-- Read Rooms, one change of the tree, and then Outcomes, one step of a put.
pub mod Rooms
pub mod Outcomes
-- Passed on to the crates above.
pub use Rattle.btree_smo.specs as btree_smo
pub use Rattle.row_changes.specs as row_changes
pub use Rattle.row_changes.specs.session_state as session_state
