pub mod ItemLemmas
pub mod RisingLemmas
pub mod ReadLemmas
pub mod RunLemmas
pub mod LogLemmas
