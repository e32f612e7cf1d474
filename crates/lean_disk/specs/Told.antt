-- Stories that begin, that stand still, and that begin after a crash.
use Rattle.std.specs.Prelude.{◌≡◌, ◌≤◌, ℕ, List, true, ◌⊎◌}
use Rattle.lean_disk.specs.Area.{fresh}
use Rattle.lean_disk.specs.Story.{Crash, LeavesNow, Story}

-- nothing was called yet, nothing is split off, and these are its areas' bytes
pub record Begins (number : ℕ) (bytes : ℕ → List ℕ) (s : Story) : Type 0 where
  pub counts : s.counts ≡ true
  pub areas : s.areas ≡ number
  pub area : (a : ℕ) → s.area a ≡ fresh (bytes a)
  pub notes : s.notes ≡ 0
  pub moment : s.moment ≡ 0

-- both tell the same
pub record TellsSame (old new : Story) : Type 0 where
  pub counts : new.counts ≡ old.counts
  pub tells : (a : ℕ) → new.tells a ≡ old.tells a
  pub areas : new.areas ≡ old.areas
  pub area : (a : ℕ) → new.area a ≡ old.area a
  pub notes : new.notes ≡ old.notes
  pub moment : new.moment ≡ old.moment
  pub past : (m : ℕ) (c : Crash) → new.left_at m c → old.left_at m c
  pub keeps : (m : ℕ) (c : Crash) → old.left_at m c → new.left_at m c

-- it tells of what it told of, at the same moment or later
pub record TellsOn (old new : Story) : Type 0 where
  pub counts : new.counts ≡ old.counts
  pub tells : (a : ℕ) → new.tells a ≡ old.tells a
  pub areas : new.areas ≡ old.areas
  pub later : old.moment ≤ new.moment

-- A line may have been noted, and else nothing happened.
pub record OnlyNotes (old new : Story) : Type 0 where
  pub area : (a : ℕ) → new.area a ≡ old.area a
  pub tells : (a : ℕ) → new.tells a ≡ old.tells a
  pub areas : new.areas ≡ old.areas
  pub counts : new.counts ≡ old.counts
  pub later : old.moment ≤ new.moment
  pub nothing_else : (m : ℕ) (c : Crash) → new.left_at m c → old.left_at m c ⊎ LeavesNow new c

-- The new disk begins with what a crash at that moment left: where a crash is told of, one that leaves these bytes is told of too.
pub record BeginsAfter (moment : ℕ) (old new : Story) : Type 0 where
  pub begins : Begins old.areas (λ a. (new.area a).bytes) new
  pub left : (c : Crash) → old.left_at moment c → old.left_at moment (record c { image = λ a. (new.area a).bytes })
