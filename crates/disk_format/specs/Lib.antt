-- Read Fresh and Formatted, then Laws.
pub mod Pieces
pub mod Fresh
pub mod Formatted
pub mod Laws
