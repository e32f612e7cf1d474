-- Read Pages; Inside has the words of private functions.
pub mod Pages
pub mod Inside
