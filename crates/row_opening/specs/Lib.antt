-- Read Opened and Rooted, what rows begin with, and Openings, the laws. Inside has the words of private functions.
pub mod Opened
pub mod Rooted
pub mod Openings
pub mod Inside
