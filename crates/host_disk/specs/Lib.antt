-- It has no words of its own.
-- Passed on to the crates above.
pub use Rattle.buffered_engine.specs as buffered_engine
