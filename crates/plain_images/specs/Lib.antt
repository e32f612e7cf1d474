-- Pages and Records say what the program's pages and records stand for, Images what its images and what redo leaves do, Names and Damages
-- what its names and damages do; Places, Undo, Replayed and Words have what the steps of its sorting, of its undo and of its list of words
-- make. Told has a law of images: who won and who lost depends on little of their records.
pub mod Pages
pub mod Records
pub mod Names
pub mod Images
pub mod Places
pub mod Undo
pub mod Replayed
pub mod Words
pub mod Damages
pub mod Told
