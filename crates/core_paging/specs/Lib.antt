pub mod Paging
pub mod Kept
pub mod Logs
pub mod Example
-- Passed on to the crates above.
pub use Rattle.core_commit.specs as core_commit
pub use Rattle.core_commit.specs.core_state as core_state
pub use Rattle.core_commit.specs.image_model as image_model
