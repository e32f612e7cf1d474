-- Where a block stands in a log's area.
use Rattle.std.specs.Prelude.{◌≤◌, ◌+◌, ◌*◌, ◌%◌, ℕ, List, length, slice_range}
use Rattle.log_block.specs.Block.{Belongs}

-- in a ring of n blocks
abbrev pub place : ℕ → ℕ → ℕ
place n block = 2048 * (block % n)

-- the block with this number stands at its place
pub record StandsAt (generation log block n : ℕ) (area : List ℕ) : Type 0 where
  pub room : place n block + 2048 ≤ length area
  pub belongs : Belongs generation log block (slice_range area (place n block) (place n block + 2048))
