-- Read Changes, then Covers, Firsts and Cuts; Lows, then Highs.
pub mod Changes
pub mod Covers
pub mod Firsts
pub mod Cuts
pub mod Lows
pub mod Highs
