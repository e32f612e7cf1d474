-- Read Recoveries; Inside has the words of private functions.
pub mod Recoveries
pub mod Inside
