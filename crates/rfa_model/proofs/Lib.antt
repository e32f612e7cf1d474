pub mod KnowLemmas
pub mod ReachLemmas
pub mod NeedLemmas
