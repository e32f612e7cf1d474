-- Read Stops and Turns, behind call_parts' Deeds.
pub mod Fronts
pub mod Stops
pub mod Turns
