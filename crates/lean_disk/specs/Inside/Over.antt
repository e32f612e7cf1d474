-- The end of a round, in which areas were split off.
use Rattle.std.specs.Prelude.{◌≡◌, ◌⊎◌, ℕ, ◌≤◌, ◌<◌, List, length}
use Rattle.lean_disk.specs.Memory.{view_at}
use Rattle.lean_disk.specs.Replay.{last_number}
use Rattle.lean_disk.specs.declared.slot.Slot.{Slot}

-- an area whose last call has this number
pub record Reached (areas : List Slot) (n : ℕ) : Type 0 where
  pub area : ℕ
  pub inside : area < length areas
  pub last : n ≡ last_number (view_at areas area).line

-- the greatest of a number and of the numbers of all calls
pub record IsNewest (made : ℕ) (areas : List Slot) (n : ℕ) : Type 0 where
  pub least : made ≤ n
  pub most : (a : ℕ) → last_number (view_at areas a).line ≤ n
  pub reached : (n ≡ made) ⊎ Reached areas n
