-- What holds of every disk in memory.
use Rattle.std.specs.Prelude.{ℕ, ◌≤◌, IsTrue}
use Rattle.lean_disk.specs.Story.{Crash, Story, Tells}
use Rattle.lean_disk.specs.MemDisk.{disk_story}
use Rattle.lean_disk.specs.declared.mem_disk.MemDisk.{MemDisk}

-- a crash that there might have been at that moment
pub record HasCrash (s : Story) (m : ℕ) : Type 0 where
  pub crash : Crash
  pub there : s.left_at m crash

-- Where crashes are told of, there is one at each moment up to now.
abbrev pub EveryMoment : Type 0
EveryMoment = (d : MemDisk) (m : ℕ) → IsTrue (disk_story d).counts → m ≤ (disk_story d).moment → HasCrash (disk_story d) m

-- and each area is told of
abbrev pub EveryArea : Type 0
EveryArea = (d : MemDisk) (a : ℕ) → IsTrue (disk_story d).counts → Tells (disk_story d) a
