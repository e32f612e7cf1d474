-- Words and laws of private functions.
pub mod Areas
pub mod Grown
pub mod Kept
pub mod Laws
pub mod Lists
pub mod Newest
pub mod Over
pub mod Slots
pub mod Steps
pub mod Synced
