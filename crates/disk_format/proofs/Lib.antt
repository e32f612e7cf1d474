mod ComposeLemmas
pub mod CrashLemmas
mod FormatLemmas
mod FreshLemmas
mod MasterLemmas
mod NewDiskLemmas
mod PieceLemmas
