-- Read Savers, then Laws. Inside has words of private functions.
pub mod Savers
pub mod Laws
pub mod Inside
