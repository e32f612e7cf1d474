pub mod Crashes
pub mod Reaches
pub mod Ripe
pub mod Example
-- Passed on to the crates above.
pub use Rattle.core_paging.specs as core_paging
pub use Rattle.core_paging.specs.core_commit as core_commit
pub use Rattle.core_paging.specs.core_state as core_state
pub use Rattle.core_paging.specs.image_model as image_model
