pub mod RowLemmas
pub mod CarryLemmas
pub mod LeftLemmas
pub mod OpeningLemmas
