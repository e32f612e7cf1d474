pub mod FirstLemmas
pub mod LookLemmas
pub mod MeetLemmas
