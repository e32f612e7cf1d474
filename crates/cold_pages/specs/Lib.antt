-- Read Kept: the table, and what it is behind a page that leaves or comes. Then Compared: when a loaded page is as it was kept. Then Laws: when
-- the table is right, and what a page is then that passes. Inside is for private functions.
pub mod Kept
pub mod Compared
pub mod Laws
pub mod Inside
