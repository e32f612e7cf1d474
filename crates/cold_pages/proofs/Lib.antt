pub mod PairLemmas
pub mod TableLemmas
pub mod KeptLemmas
pub mod RowLemmas
