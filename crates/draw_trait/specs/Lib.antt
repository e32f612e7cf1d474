-- Read Clocks.
pub mod Clocks
