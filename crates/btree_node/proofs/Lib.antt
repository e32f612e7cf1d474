pub mod FlatLemmas
pub mod SpellingLemmas
pub mod PlaceLemmas
pub mod ChangeLemmas
pub mod OrderLemmas
pub mod FillLemmas
pub mod PurgeLemmas
pub mod StructureLemmas
