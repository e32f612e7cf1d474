pub mod ChangeLemmas
pub mod CoverLemmas
pub mod FirstLemmas
pub mod CutLemmas
pub mod LowLemmas
pub mod CountLemmas
pub mod HighLemmas
pub mod SaveLemmas
