-- Read Spelling, Reading, Heads and Laws; Model maps a record to that of the model of pages. Inside is of private functions alone.
pub mod Spelling
pub mod Reading
pub mod Heads
pub mod Laws
pub mod Model
pub mod Inside
