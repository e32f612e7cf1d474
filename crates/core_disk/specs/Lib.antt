-- Read Held, with MasterFloors, then Lives and Shows; then Versions and FloorLaws.
pub mod MasterFloors
pub mod Held
pub mod Lives
pub mod Shows
pub mod Versions
pub mod FloorLaws
-- Passed on to the crates above.
pub use Rattle.core_crash.specs as core_crash
pub use Rattle.core_crash.specs.core_commit as core_commit
pub use Rattle.core_crash.specs.core_paging as core_paging
pub use Rattle.core_crash.specs.core_state as core_state
