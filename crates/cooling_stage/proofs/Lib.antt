pub mod QueueLemmas
pub mod SlotLemmas
pub mod KeptLemmas
pub mod WalkLemmas
