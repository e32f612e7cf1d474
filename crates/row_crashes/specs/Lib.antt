-- Read Row, then Left.
pub mod Row
pub mod Left
