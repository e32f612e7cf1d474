-- Read Ends: which begins are said of, and how a begin, a commit and a sync are answered. What each did in a run is paged_desks' CallDoes. Pieces has words of private functions.
pub mod Ends
pub mod Pieces
