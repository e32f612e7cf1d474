pub mod Legal
pub mod UndoLemmas
pub mod WalkLemmas
