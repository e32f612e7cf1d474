pub mod SlotLemmas
pub mod PageLemmas
pub mod MasterLemmas
pub mod LawLemmas
