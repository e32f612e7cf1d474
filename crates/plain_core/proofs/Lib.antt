pub mod Copies
pub mod Meanings
pub mod Placings
pub mod Runs
pub mod Sameness
pub mod Started
pub mod Updates
