-- Read Pages. Inside is for private functions.
pub mod Pages
pub mod Inside
