-- Read Transcripts, then Runs, then Laws.
pub mod Transcripts
pub mod Runs
pub mod Laws
