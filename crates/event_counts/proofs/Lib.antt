pub mod DrawLemmas
pub mod ScanLemmas
