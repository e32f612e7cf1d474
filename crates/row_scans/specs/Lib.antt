-- Read Meets; Inside has words of private functions.
pub mod Meets
pub mod Inside
