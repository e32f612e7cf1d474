-- Read Stamps, then Reaches, Knows and Runs.
pub mod Stamps
pub mod Reaches
pub mod Knows
pub mod Runs
