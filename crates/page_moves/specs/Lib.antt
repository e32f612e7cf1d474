-- Read Moves. How rows are held, and what a publish appends, is in held_rows: specs/Rows, specs/Publishing.
pub mod Moves
