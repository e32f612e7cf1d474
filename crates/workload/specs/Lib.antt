-- Read Draws, then Lines, then Laws. Inside is for private functions and the type's own fields.
pub mod Draws
pub mod Lines
pub mod Laws
pub mod Inside
