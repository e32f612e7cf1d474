pub mod BaseLemmas
pub mod FormattedLemmas
pub mod OrderLemmas
