pub mod Finding
pub mod Locking
pub mod Looking
pub mod Two
