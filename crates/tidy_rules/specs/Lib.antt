-- Read Purges, Growth, Rooms and Tidying, what changes the tree; then Laws and Rows.
pub mod Purges
pub mod Growth
pub mod Rooms
pub mod Tidying
pub mod Laws
pub mod Rows
