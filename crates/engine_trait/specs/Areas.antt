-- In which areas of its disk a call of an engine works: in those of the logs, and where it makes a sync in that of the masters.
use Rattle.std.specs.Prelude.{◌≡◌, ◌⊎◌, ◌≤◌, ◌<◌, ℕ, suc, Bool, false}
use Rattle.lean_disk.specs.Area.{Leaves}
use Rattle.lean_disk.specs.Story.{Crash, Story, Tells}

-- an area in which nothing is done: the pages', one behind those of so many logs, and the masters' where there is no sync
abbrev pub IsAside : (logs : ℕ) → (syncs : Bool) → ℕ → Type 0
IsAside logs syncs a = (a ≡ 1) ⊎ ((suc logs < a) ⊎ ((a ≡ 0) × (syncs ≡ false)))

-- Behind the call these areas are as they were, no line was noted, and the disk tells of what it told of.
pub record Around (logs : ℕ) (syncs : Bool) (old new : Story) : Type 0 where
  pub notes : new.notes ≡ old.notes
  pub tells : (a : ℕ) → new.tells a ≡ old.tells a
  pub areas : new.areas ≡ old.areas
  pub counts : new.counts ≡ old.counts
  pub later : old.moment ≤ new.moment
  pub past : (m : ℕ) (c : Crash) → m ≤ old.moment → new.left_at m c → old.left_at m c
  pub aside : (a : ℕ) → IsAside logs syncs a → new.area a ≡ old.area a
  pub first : (a : ℕ) → (new.area a).first ≡ (old.area a).first

-- a crash leaves them as one might have left them before the call
pub record Beside (logs : ℕ) (syncs : Bool) (s : Story) (c : Crash) : Type 0 where
  pub notes : c.notes ≡ s.notes
  pub writes : (a : ℕ) → IsAside logs syncs a → Tells s a → c.writes a ≡ (s.area a).writes
  pub leaves : (a : ℕ) → IsAside logs syncs a → Tells s a → Leaves (s.area a) (c.image a)
