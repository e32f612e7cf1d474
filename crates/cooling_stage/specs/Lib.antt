-- Read Queue, then Walk. Inside is for private functions.
pub mod Queue
pub mod Walk
pub mod Inside
