-- What a disk in memory tells, and what a crash leaves of it.
use Rattle.std.specs.Prelude.{Vec, ℕ, zero, suc, List, [], ◌∷◌}
use Rattle.std.specs.declared.alloc.Global.{Global}
use Rattle.lean_disk.specs.Story.{Story}
use Rattle.lean_disk.specs.Memory.{areas_story, view_at}
use Rattle.lean_disk.specs.Crashed.{left_by}
use Rattle.lean_disk.specs.declared.crash.Choice.{Choice}
use Rattle.lean_disk.specs.declared.mem_disk.MemDisk.{MemDisk}

abbrev pub disk_story : MemDisk → Story
disk_story d = areas_story d.own d.areas.items d.made d.notes

-- what the choice leaves of an area at a moment
abbrev pub crashed_bytes : MemDisk → ℕ → Choice → ℕ → List ℕ
crashed_bytes d m choice a = left_by choice m (view_at d.areas.items a)

-- the bytes of a number, none past the last
abbrev pub bytes_at : List (Vec ℕ Global) → ℕ → List ℕ
bytes_at [] a = []
bytes_at (x ∷ xs) zero = x.items
bytes_at (x ∷ xs) (suc a) = bytes_at xs a
