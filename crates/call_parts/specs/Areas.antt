-- In which areas of its disk a call works: in those of the logs; where it saves a page in that of the pages; and where it makes a sync in that of the masters.
use Rattle.std.specs.Prelude.{◌≡◌, ◌⊎◌, ◌≤◌, ◌<◌, ℕ, suc, Bool, true, false}
use Rattle.session_state.specs.core_state.Events.{Event}
use Rattle.lean_disk.specs.Area.{Leaves}
use Rattle.lean_disk.specs.Moments.{LeavesOnly}
use Rattle.lean_disk.specs.Story.{Crash, Story, Tells}

-- a page is saved
abbrev pub is_save : Event → Bool
is_save (Event.Save p) = true
is_save _ = false

-- an area in which nothing is done: the pages' where none is saved, one behind those of so many logs, and the masters' where there is no sync
abbrev pub IsAside : (logs : ℕ) → (saves syncs : Bool) → ℕ → Type 0
IsAside logs saves syncs a = ((a ≡ 1) × (saves ≡ false)) ⊎ ((suc logs < a) ⊎ ((a ≡ 0) × (syncs ≡ false)))

-- Behind the call these areas are as they were, no line was noted, and the disk tells of what it told of.
pub record Around (logs : ℕ) (saves syncs : Bool) (old new : Story) : Type 0 where
  pub notes : new.notes ≡ old.notes
  pub tells : (a : ℕ) → new.tells a ≡ old.tells a
  pub areas : new.areas ≡ old.areas
  pub counts : new.counts ≡ old.counts
  pub later : old.moment ≤ new.moment
  pub past : (m : ℕ) (c : Crash) → m ≤ old.moment → new.left_at m c → old.left_at m c
  pub aside : (a : ℕ) → IsAside logs saves syncs a → new.area a ≡ old.area a
  pub first : (a : ℕ) → (new.area a).first ≡ (old.area a).first

-- a crash leaves them as one might have left them before the call
pub record Beside (logs : ℕ) (saves syncs : Bool) (s : Story) (c : Crash) : Type 0 where
  pub notes : c.notes ≡ s.notes
  pub writes : (a : ℕ) → IsAside logs saves syncs a → Tells s a → c.writes a ≡ (s.area a).writes
  pub leaves : (a : ℕ) → IsAside logs saves syncs a → Tells s a → Leaves (s.area a) (c.image a)

-- at every moment, and behind the call
pub record Apart (logs : ℕ) (saves syncs : Bool) (old new : Story) : Type 0 where
  pub around : Around logs saves syncs old new
  pub within : LeavesOnly old new (Beside logs saves syncs old)
