-- Read Outcomes, then Lifts, Drops, Splits, Joins and Purges, and Room. Inside has words of private functions alone.
pub mod Outcomes
pub mod Lifts
pub mod Drops
pub mod Splits
pub mod Joins
pub mod Purges
pub mod Room
pub mod Inside
