pub mod FreedLemmas
pub mod PurgeLemmas
pub mod TidyLemmas
pub mod ByHand
