pub mod PairLemmas
pub mod MarkLemmas
pub mod WayLemmas
