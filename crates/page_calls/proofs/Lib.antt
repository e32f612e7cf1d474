pub mod Knowing
pub mod Saving
pub mod Loading
pub mod Mirroring
