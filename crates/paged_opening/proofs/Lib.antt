pub mod ColdLemmas
mod PageLemmas
mod FreeLemmas
pub mod BeginLemmas
pub mod MirrorLemmas
