pub mod RecordFacts
pub mod SpotLemmas
pub mod ItemLemmas
pub mod SortLemmas
pub mod OrderLemmas
