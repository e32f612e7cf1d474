-- Read Items. Inside is of private functions alone.
pub mod Items
pub mod Inside
