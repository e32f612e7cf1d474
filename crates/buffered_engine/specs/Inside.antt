-- Words of private functions: how an engine asks, what its machine is to it and what a call left of that, which scan it has, and when no end can be ripe.
pub mod Asks
pub mod Calm
pub mod Parts
pub mod Scans
