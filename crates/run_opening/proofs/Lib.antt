pub mod FirmLemmas
pub mod StartLemmas
