-- Read Pools, Queues, Counts, then Full.
pub mod Pools
pub mod Queues
pub mod Counts
pub mod Full
