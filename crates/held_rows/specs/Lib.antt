-- Steps: what a call has appended that was refused. Rows: rows that are held, and words stored in them.
-- Latching: a row that was latched, or was not. Publishing: an event that was published at rows which are held.
-- Waits: how views follow one another between which others have stepped, and what of held rows stays.
pub mod Steps
pub mod Rows
pub mod Latching
pub mod Publishing
pub mod Waits
