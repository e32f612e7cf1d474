pub mod LoopFacts
pub mod OrderLemmas
pub mod RedoLemmas
pub mod UndoLemmas
pub mod ReadLemmas
pub mod WordsLemmas
pub mod DamageLemmas
pub mod ToldLemmas
