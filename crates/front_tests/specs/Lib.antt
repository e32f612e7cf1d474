-- Puppets has what the double has in memory.
pub mod Puppets
