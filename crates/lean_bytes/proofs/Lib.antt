pub mod NumberLemmas
pub mod SealLemmas
