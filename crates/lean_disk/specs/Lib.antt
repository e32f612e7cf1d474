-- Read in this order; Inside/ has the words of private functions.
pub mod Area
pub mod Story
pub mod Calls
pub mod Moments
pub mod Faults
pub mod Replay
pub mod Memory
pub mod Told
pub mod Crashed
pub mod MemDisk
pub mod Laws
pub mod Inside
