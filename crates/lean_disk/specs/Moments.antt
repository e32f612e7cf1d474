-- What holds at every moment of a run of calls.
use Rattle.std.specs.Prelude.{◌≡◌, ◌⊎◌, ℕ, ◌≤◌, List}
use Rattle.lean_disk.specs.Area.{Write, Leaves}
use Rattle.lean_disk.specs.Story.{Crash, Story, Tells, Elsewhere}

-- Each crash at any moment from old on has P.
pub record LeavesOnly (old new : Story) (P : Crash → Type 0) : Type 0 where
  pub each : (m : ℕ) (c : Crash) → old.moment ≤ m → new.left_at m c → P c
  -- for a run that began earlier
  pub before : (m : ℕ) (c : Crash) → new.left_at m c → old.left_at m c ⊎ P c

-- A run of calls on the area a alone: all else is as it was.
pub record Framed (a : ℕ) (old new : Story) : Type 0 where
  pub notes : new.notes ≡ old.notes
  pub tells : (b : ℕ) → new.tells b ≡ old.tells b
  pub areas : new.areas ≡ old.areas
  pub counts : new.counts ≡ old.counts
  pub later : old.moment ≤ new.moment
  pub past : (m : ℕ) (c : Crash) → m ≤ old.moment → new.left_at m c → old.left_at m c
  pub elsewhere : Elsewhere a old new
  pub first : (new.area a).first ≡ (old.area a).first

-- A crash in such a run, which began at s: Q holds of the writes and the bytes of the area a, the other areas are as at s.
pub record CrashIn (s : Story) (a : ℕ) (Q : List Write → List ℕ → Type 0) (c : Crash) : Type 0 where
  pub notes : c.notes ≡ s.notes
  pub writes : (b : ℕ) → (b ≡ a → ⊥) → Tells s b → c.writes b ≡ (s.area b).writes
  pub leaves : (b : ℕ) → (b ≡ a → ⊥) → Tells s b → Leaves (s.area b) (c.image b)
  pub here : Q (c.writes a) (c.image a)

-- A crash that might have been at s already.
pub record AsAt (s : Story) (c : Crash) : Type 0 where
  pub notes : c.notes ≡ s.notes
  pub writes : (a : ℕ) → Tells s a → c.writes a ≡ (s.area a).writes
  pub leaves : (a : ℕ) → Tells s a → Leaves (s.area a) (c.image a)

-- A run of calls that only read: all stands as it stood, and no crash may leave anything else.
pub record OnlyReads (old new : Story) : Type 0 where
  pub any_moment : LeavesOnly old new (AsAt old)
  pub area : (a : ℕ) → new.area a ≡ old.area a
  pub notes : new.notes ≡ old.notes
  pub tells : (a : ℕ) → new.tells a ≡ old.tells a
  pub areas : new.areas ≡ old.areas
  pub counts : new.counts ≡ old.counts
  pub later : old.moment ≤ new.moment
  pub past : (m : ℕ) (c : Crash) → m ≤ old.moment → new.left_at m c → old.left_at m c
