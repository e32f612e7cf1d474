pub mod Locality
pub mod Runs
-- Passed on to the crates above.
pub use Rattle.image_model.proofs as image_model
