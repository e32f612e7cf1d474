pub mod WalkLemmas
pub mod PageLemmas
pub mod StepLemmas
pub mod PassLemmas
pub mod MakeLemmas
pub mod WriteLemmas
pub mod AskLemmas
pub mod LeafLemmas
