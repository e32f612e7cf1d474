-- Read Openings. Inside has words of private functions.
pub mod Openings
pub mod Inside
-- Passed on to the crates above.
pub use Rattle.paged_opening.specs as paged_opening
