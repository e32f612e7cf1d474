pub mod Peeked
pub mod Locked
