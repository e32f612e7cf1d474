-- Read Changes, what each piece asks and one change that was made; then Outcomes, by answer, and Ends.
pub mod Changes
pub mod Outcomes
pub mod Ends
-- Passed on to the crates above.
pub use Rattle.btree_smo.specs as btree_smo
pub use Rattle.row_ends.specs as row_ends
pub use Rattle.tidy_rules.specs as tidy_rules
