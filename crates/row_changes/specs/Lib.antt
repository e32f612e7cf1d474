-- Read Takes, Ways and Reads; then Puts, with MayChange, what a change needs, and Dels, Spots, Paths, Outcomes and Backs.
pub mod Takes
pub mod Ways
pub mod Reads
pub mod Puts
pub mod Dels
pub mod Spots
pub mod Paths
pub mod Outcomes
pub mod Backs
-- Passed on to the crates above.
pub use Rattle.session_state.specs as session_state
