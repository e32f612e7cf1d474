-- Read Opened.
pub mod Opened
