-- Masks: readers as bits. Sayings: what words say. Lists: of holds. Staying, Publishing: a held lock row while others go on.
pub mod Masks
pub mod Sayings
pub mod Lists
pub mod Staying
pub mod Publishing
pub mod Calls
pub mod Holding
pub mod Taking
pub mod Marking
pub mod Soundness
pub mod Again
