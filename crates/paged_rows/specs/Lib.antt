-- Read Paged, then Warms.
pub mod Paged
pub mod Warms
