-- Read Rows, Locking and Latching in this order; Inside has words of private functions.
pub mod Rows
pub mod Inside
pub mod Locking
pub mod Latching
pub mod Seeing
pub mod Soundness
