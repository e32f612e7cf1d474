-- Words of private functions: how the words are read, and how a command ended; what an opening leaves, and lines that are put, one or several; the laws that a run stands on.
pub mod CommandLines
pub mod Commands
pub mod Lefts
pub mod Begins
pub mod Assembled
pub mod Openings
pub mod Laws
pub mod Puts
pub mod Makings
