pub mod MadeLemmas
pub mod SeatLemmas
pub mod OpeningLemmas
pub mod StartLemmas
pub mod ReadyLemmas
