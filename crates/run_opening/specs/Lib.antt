-- Read Starts.
pub mod Starts
