-- Read Listings: the pairs of a map in the order of their keys. Then Fences: where leaves end. Then Laws.
pub mod Listings
pub mod Fences
pub mod Laws
