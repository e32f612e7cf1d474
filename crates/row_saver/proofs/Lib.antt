pub mod FrameLemmas
pub mod RunLemmas
pub mod SaverLemmas
pub mod PagerLemmas
