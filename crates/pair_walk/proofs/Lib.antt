pub mod ListingLemmas
pub mod LeafLemmas
