-- Read Calls, then Wholes, Syncs and Cuts.
pub mod Calls
pub mod Wholes
pub mod Syncs
pub mod Cuts
