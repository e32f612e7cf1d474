pub mod DamageLemmas
pub mod FairLemmas
pub mod SameLemmas
pub mod SetLemmas
pub mod UndoLemmas
pub mod WordLemmas
