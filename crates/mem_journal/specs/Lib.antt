-- Read Rows, then Entries, Workers, Logs, Views, Places, Openings and Laws.
pub mod Rows
pub mod Entries
pub mod Workers
pub mod Logs
pub mod Views
pub mod Places
pub mod Openings
pub mod Laws
