-- Read Aborts: where an abort may come, what it tells, and what it did. What a call did in each run is paged_desks' CallDoes. Backs has words of private functions.
pub mod Aborts
pub mod Backs
