-- Read Swips: the words of swips, and which words they are; and Hints.
pub mod Swips
pub mod Hints
