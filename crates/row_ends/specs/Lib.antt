-- Read Begins; then Ends, what an end is made of, with Receipts, what it tells; then Outcomes, what a commit and an abort's end did. Tests: why a call is refused before it is
-- begun. Flushed: how far logs are flushed, as a seat loads it.
pub mod Flushed
pub mod Tests
pub mod Begins
pub mod Ends
pub mod Receipts
pub mod Outcomes
