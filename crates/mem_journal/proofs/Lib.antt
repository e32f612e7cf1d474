pub mod LoopFacts
pub mod RowLemmas
pub mod WorkerLemmas
pub mod LogLemmas
pub mod PictureLemmas
pub mod PlaceLemmas
pub mod OpeningLemmas
