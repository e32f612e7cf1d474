-- Read Draws, then Scans.
pub mod Draws
pub mod Scans
