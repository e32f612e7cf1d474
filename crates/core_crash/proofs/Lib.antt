pub mod Words
pub mod Order
pub mod Ends
pub mod Redo
pub mod Undo
pub mod Journal
pub mod Kept
pub mod Cuts
pub mod Main
pub mod Serial
pub mod Images
pub mod Transactions
pub mod Reaches
pub mod RipeLemmas
pub mod Recovery
pub mod ByHand
pub mod Reopening
-- Passed on to the crates above.
pub use Rattle.core_paging.proofs as core_paging
pub use Rattle.core_paging.proofs.core_commit as core_commit
pub use Rattle.core_paging.proofs.core_state as core_state
