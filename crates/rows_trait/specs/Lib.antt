-- Read Layout, Views and Turns in this order for the trait, Causes for why a call refused, Plain for rows in memory, and Rule for
-- what holds between any two steps.
pub mod Layout
pub mod Plain
pub mod Views
pub mod Causes
pub mod Turns
pub mod Rule
pub mod Inside
-- Passed on to the crates above.
pub use Rattle.row_words.specs as row_words
pub use Rattle.row_words.specs.btree_node as btree_node
pub use Rattle.row_words.specs.core_state as core_state
