-- Read Turns: what is asked behind an answer.
pub mod Turns
