-- Read Numbers, then Seals. Laws has what holds of every number, and of every list of words.
pub mod Numbers
pub mod Seals
pub mod Laws
