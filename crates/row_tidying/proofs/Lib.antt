pub mod MadeLemmas
pub mod EndLemmas
pub mod PurgeLemmas
pub mod FloorLemmas
pub mod JoinLemmas
pub mod DropLemmas
-- Passed on to the crates above.
pub use Rattle.btree_smo.proofs as btree_smo
