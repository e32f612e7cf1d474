-- Read Clocks, then Laws.
pub mod Clocks
pub mod Laws
