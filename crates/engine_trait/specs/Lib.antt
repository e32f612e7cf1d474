-- Read Limits, Refusals, Rooms, Logs, Areas, Calls and Serving in this order.
pub mod Limits
pub mod Refusals
pub mod Rooms
pub mod Logs
pub mod Areas
pub mod Calls
pub mod Serving
-- Passed on to the crates above.
pub use Rattle.tidy_rules.specs as tidy_rules
