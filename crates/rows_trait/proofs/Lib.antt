pub mod Cells
pub mod Holds
pub mod EventLemmas
pub mod Memory
pub mod Keeping
pub mod Stepping
pub mod Steps
pub mod ControlSteps
pub mod Runs
pub mod OneSeat
pub mod First
pub mod Causes
pub mod Syncs
-- Passed on to the crates above.
pub use Rattle.row_words.proofs as row_words
pub use Rattle.row_words.proofs.btree_node as btree_node
