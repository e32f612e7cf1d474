pub mod Holding
pub mod Taking
pub mod TakingMore
pub mod Storing
pub mod GivingUp
pub mod Settling
