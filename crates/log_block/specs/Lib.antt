-- Read Block, then Run.
pub mod Block
pub mod Run
