pub mod TextLemmas
pub mod PutLemmas
pub mod LeafLemmas
pub mod MapLemmas
pub mod EndLemmas
