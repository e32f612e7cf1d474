-- Read Ripeness, then Queues, then Tracks, Outcomes and Laws.
pub mod Ripeness
pub mod Queues
pub mod Tracks
pub mod Outcomes
pub mod Laws
