-- Read Standing; Drawn has a session as a draw has it.
pub mod Drawn
pub mod Standing
