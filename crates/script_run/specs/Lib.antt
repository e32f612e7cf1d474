-- Read Runs, then Texts. Inside has the words of private functions, and of a run of one line.
pub mod Runs
pub mod Texts
pub mod Inside
