-- Words of private functions: the way to a key's leaf, what is found of its levels and of its leaf, and what is next from a level on.
pub mod Ways
pub mod Levels
pub mod Nexts
pub mod Leaves
pub mod Climbs
pub mod Values
