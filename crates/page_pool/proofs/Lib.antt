pub mod Numbers
pub mod Agreeing
pub mod Queueing
pub mod Taken
pub mod Counting
