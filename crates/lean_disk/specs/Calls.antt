-- What each call does to what a disk tells.
use Rattle.std.specs.Prelude.{◌≡◌, ◌⊎◌, ℕ, ◌+◌, ◌-◌, ◌≤◌, ◌<◌, ◌^◌, min, List, ◌∷◌, ◌++◌, length, take, drop, false, IsTrue}
use Rattle.lean_disk.specs.Area.{Leaves, torn, written, synced}
use Rattle.lean_disk.specs.Story.{Crash, Story, Tells, LeavesNow, Elapses, Elsewhere}
use Rattle.lean_disk.specs.declared.disk.Did.{Did}
use Rattle.lean_disk.specs.declared.disk.Did.TheVariants as did
use Rattle.lean_disk.specs.declared.disk.Read.{Read}
use Rattle.lean_disk.specs.declared.disk.Read.TheVariants as read

-- no more bytes than fit
abbrev pub Within : Read → ℕ → Type 0
Within (read.Got n) size = n ≤ size
Within read.Failed size = Unit {0}

-- what a read gives: what stands there, and less than was asked only at the area's end
abbrev pub Gave : ℕ → List ℕ → List ℕ → List ℕ → Read → Type 0
Gave at bytes before after (read.Got n) = (n ≡ min (length before) (length bytes - at)) × (after ≡ take n (drop at bytes) ++ drop n before)
Gave at bytes before after read.Failed = Unit {0}

-- A read changes nothing.
pub record Looked (a at : ℕ) (before after : List ℕ) (result : Read) (old new : Story) : Type 0 where
  pub time : Elapses old new
  pub notes : new.notes ≡ old.notes
  pub area : (b : ℕ) → new.area b ≡ old.area b
  pub bytes : Tells old a → Gave at (old.area a).bytes before after result

-- A write. In the call and after it, a crash may leave what it might have left before, but for any bytes in the range.
pub record Wrote (a at : ℕ) (bytes : List ℕ) (result : Did) (old new : Story) : Type 0 where
  pub time : Elapses old new
  pub notes : new.notes ≡ old.notes
  pub elsewhere : Elsewhere a old new
  pub crash : Tells old a → (c : List ℕ) → Leaves (new.area a) c → Leaves (torn at bytes (old.area a)) c
  -- a write that failed may not even have begun
  pub writes : Tells old a → ((new.area a).writes ≡ (at, bytes) ∷ (old.area a).writes) ⊎ ((new.area a).writes ≡ (old.area a).writes)
  pub first : (new.area a).first ≡ (old.area a).first
  pub done : Tells old a → result ≡ did.Done → new.area a ≡ written at bytes (old.area a)

-- A sync. After Done a crash leaves what a read gives.
pub record Synced (a : ℕ) (result : Did) (old new : Story) : Type 0 where
  pub time : Elapses old new
  pub notes : new.notes ≡ old.notes
  pub elsewhere : Elsewhere a old new
  pub bytes : (new.area a).bytes ≡ (old.area a).bytes
  pub crash : Tells old a → (c : List ℕ) → Leaves (new.area a) c → Leaves (old.area a) c
  pub writes : (new.area a).writes ≡ (old.area a).writes
  pub first : (new.area a).first ≡ (old.area a).first
  pub done : Tells old a → result ≡ did.Done → new.area a ≡ synced (old.area a)

-- A note changes the count of notes alone. While an area is split off nothing is said of it.
pub record Noted (old new : Story) : Type 0 where
  pub later : old.moment ≤ new.moment
  pub counts : new.counts ≡ old.counts
  pub tells : (a : ℕ) → new.tells a ≡ old.tells a
  pub areas : new.areas ≡ old.areas
  pub notes : IsTrue old.counts → new.notes ≡ min (old.notes + 1) (2 ^ 64 - 1)
  pub area : (b : ℕ) → new.area b ≡ old.area b
  pub nothing_else : (m : ℕ) (c : Crash) → new.left_at m c → old.left_at m c ⊎ LeavesNow new c
  pub keeps : (m : ℕ) (c : Crash) → old.left_at m c → new.left_at m c

-- it has this area, and it is not split off, if it tells at all
abbrev pub IsHere : Story → ℕ → Type 0
IsHere s a = 0 < s.areas → (a < s.areas) × Tells s a

-- this area is split off, and the part tells of it, if the disk tells at all
abbrev pub IsOut : Story → ℕ → Story → Type 0
IsOut s a part = 0 < s.areas → (s.tells a ≡ false) × Tells part a

-- The area a is split off: the part has it as it stood; together the two know each crash that was, and none is told of until it is back.
pub record Split (a : ℕ) (old new part : Story) : Type 0 where
  pub here : Tells old a → (part.area a ≡ old.area a) × Tells part a × (part.notes ≡ old.notes)
  pub gone : new.tells a ≡ false
  pub counts : new.counts ≡ false
  pub tells : (b : ℕ) → (b ≡ a → ⊥) → new.tells b ≡ old.tells b
  pub areas : new.areas ≡ old.areas
  pub elsewhere : Elsewhere a old new
  pub notes : new.notes ≡ old.notes
  pub past : (m : ℕ) (c : Crash) → new.left_at m c → part.left_at m c → old.left_at m c
  pub before : (m : ℕ) (c : Crash) → new.left_at m c → m ≤ part.moment
  pub keeps : (m : ℕ) (c : Crash) → old.left_at m c → new.left_at m c × part.left_at m c

-- The area a is back, as the part has it. If no other is split off, crashes may be told of again from now on.
pub record Rejoined (a : ℕ) (old part new : Story) : Type 0 where
  pub here : Tells part a → Tells new a × (new.area a ≡ part.area a)
  pub tells : (b : ℕ) → (b ≡ a → ⊥) → new.tells b ≡ old.tells b
  pub areas : new.areas ≡ old.areas
  pub elsewhere : Elsewhere a old new
  pub notes : new.notes ≡ old.notes
  pub past : (m : ℕ) (c : Crash) → new.left_at m c → (old.left_at m c × part.left_at m c) ⊎ LeavesNow new c
  pub keeps : (m : ℕ) (c : Crash) → old.left_at m c → part.left_at m c → new.left_at m c
