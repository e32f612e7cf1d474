-- What a disk tells: its areas, its clock, and the crashes that there might have been at each moment.
use Rattle.std.specs.Prelude.{◌≡◌, ℕ, ◌≤◌, ◌<◌, List, Bool, false, IsTrue}
use Rattle.lean_disk.specs.Area.{Write, Area, Leaves}

-- A crash: how often `note` was called by then, each area's writes by then, the newest first, and the bytes that the crash leaves of each area.
pub record Crash : Type 0 where
  pub notes : ℕ
  pub writes : ℕ → List Write
  pub image : ℕ → List ℕ

-- What an object tells. Where it doesn't tell of an area, nothing is said of that area's bytes.
pub record Story : Type 1 where
  -- whether this is a moment at which crashes are told of: none is while something is split off
  pub counts : Bool
  pub tells : ℕ → Bool
  -- how many areas it has that can be split off, none where it tells nothing
  pub areas : ℕ
  pub area : ℕ → Area
  -- how often `note` was called
  pub notes : ℕ
  -- the clock, a number that doesn't fall
  pub moment : ℕ
  -- at that moment there might have been this crash
  pub left_at : ℕ → Crash → Type 0

abbrev pub Tells : Story → ℕ → Type 0
Tells s a = IsTrue (s.tells a)

-- the bytes that its areas hold
abbrev pub areas_of : Story → ℕ → List ℕ
areas_of s a = (s.area a).bytes

-- there may be this crash now
pub record LeavesNow (s : Story) (c : Crash) : Type 0 where
  pub counts : IsTrue s.counts
  pub notes : c.notes ≡ s.notes
  pub writes : (a : ℕ) → Tells s a → c.writes a ≡ (s.area a).writes
  pub leaves : (a : ℕ) → Tells s a → Leaves (s.area a) (c.image a)

-- what holds of each story
pub record IsLawful (s : Story) : Type 0 where
  -- as it reads, it is one of the images that a crash now may leave
  pub reads_so : (a : ℕ) → Tells s a → Leaves (s.area a) (s.area a).bytes
  -- now is a moment
  pub counts_now : (c : Crash) → LeavesNow s c → s.left_at s.moment c
  -- and there is none after it
  pub only_now : (m : ℕ) (c : Crash) → s.moment ≤ m → s.left_at m c → LeavesNow s c

-- Time goes on in a call: a crash up to the moment before it is one that might have been then, and one after it is one that may be now.
pub record Elapses (old new : Story) : Type 0 where
  pub later : old.moment ≤ new.moment
  pub counts : new.counts ≡ old.counts
  pub tells : (a : ℕ) → new.tells a ≡ old.tells a
  pub areas : new.areas ≡ old.areas
  pub past : (m : ℕ) (c : Crash) → m ≤ old.moment → new.left_at m c → old.left_at m c
  pub now : (m : ℕ) (c : Crash) → old.moment < m → new.left_at m c → LeavesNow new c
  pub keeps : (m : ℕ) (c : Crash) → old.left_at m c → new.left_at m c
  -- while an area is split off, the clock stands
  pub frozen : old.counts ≡ false → new.moment ≡ old.moment

-- the other areas stand as they stood
abbrev pub Elsewhere : ℕ → Story → Story → Type 0
Elsewhere a old new = (b : ℕ) → (b ≡ a → ⊥) → new.area b ≡ old.area b

-- Which area a part is; by which loan of a disk, if by one; since when it is split off, if it is.
pub record Seat : Type 0 where
  pub area : ℕ
  pub loan : ℕ
  pub since : ℕ
