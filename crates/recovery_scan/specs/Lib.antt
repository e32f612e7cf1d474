-- Read Records, then Scans. Inside has the words of private functions.
pub mod Records
pub mod Scans
pub mod Inside
