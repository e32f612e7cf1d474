-- Read Cuts.
pub mod Cuts
