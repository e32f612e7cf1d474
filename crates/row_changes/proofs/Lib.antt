pub mod Misses
pub mod SeenLemmas
pub mod ConflictLemmas
pub mod LoneLemmas
pub mod TakeLemmas
pub mod WayLemmas
pub mod ReadLemmas
pub mod PutLemmas
pub mod DelLemmas
pub mod SpotLemmas
pub mod BackLemmas
pub mod TakesLemmas
pub mod TouchLemmas
pub mod StepLemmas
-- Passed on to the crates above.
pub use Rattle.session_state.proofs as session_state
