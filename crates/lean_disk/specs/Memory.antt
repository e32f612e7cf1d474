-- What a disk in memory tells, by the calls that it keeps for each area.
use Rattle.std.specs.Prelude.{◌≡◌, ℕ, zero, suc, ◌+◌, ◌≤◌, ◌<◌, ◌==◌, List, [], ◌∷◌, length, Bool, true, false, if◌then◌else◌, IsTrue}
use Rattle.std.specs.List.{AllByRecursion}
use Rattle.lean_disk.specs.Area.{Area, Write, Leaves, fresh}
use Rattle.lean_disk.specs.Story.{Crash, Story}
use Rattle.lean_disk.specs.Replay.{replay, upto}
use Rattle.lean_disk.specs.declared.area_log.Call.{Call}
use Rattle.lean_disk.specs.declared.area_log.AreaLog.{AreaLog}
use Rattle.lean_disk.specs.declared.slot.Slot.{Slot}
use Rattle.lean_disk.specs.declared.slot.Slot.TheVariants.{Here, Out}

-- An area in memory: whether it is here, its first bytes, and its calls, the oldest first.
pub record View : Type 0 where
  pub here : Bool
  pub first : List ℕ
  pub line : List Call

-- the area as it is now, and as it was after the disk's first k calls
abbrev pub area_now : View → Area
area_now v = replay (fresh v.first) v.line

abbrev pub area_after : ℕ → View → Area
area_after k v = replay (fresh v.first) (upto k v.line)

-- an area that is split off
abbrev pub gone : View
gone = record { here = false; first = []; line = [] }

-- one that begins with these bytes
abbrev pub begun : List ℕ → View
begun bytes = record { here = true; first = bytes; line = [] }

-- one that the disk hasn't
abbrev pub never : View
never = begun []

abbrev pub log_view : AreaLog → View
log_view log = record { here = true; first = log.first.items; line = log.calls.items }

abbrev pub slot_view : Slot → View
slot_view (Here log) = log_view log
slot_view Out = gone

-- the area of a number
abbrev pub view_at : List Slot → ℕ → View
view_at [] a = never
view_at (x ∷ xs) zero = slot_view x
view_at (x ∷ xs) (suc a) = view_at xs a

-- one area and no other
abbrev pub only : ℕ → View → ℕ → View
only a v b = if b == a then v else gone

-- nothing is split off
abbrev pub all_here : List Slot → Bool
all_here [] = true
all_here (x ∷ xs) = if (slot_view x).here then all_here xs else false

-- Crashes are told of: nothing is split off, and each part that came back is the disk's own, as far as its calls show.
abbrev pub all_own : Bool → List Slot → Bool
all_own own areas = if own then all_here areas else false

-- Of two calls of one disk, the one with the greater number has no fewer notes before it.
pub record IsInStep (x y : Call) : Type 0 where
  pub up : x.number ≤ y.number → x.notes ≤ y.notes
  pub down : y.number ≤ x.number → y.notes ≤ x.notes

-- each call of the one list with each of the other
abbrev pub LinesInStep : List Call → List Call → Type 0
LinesInStep xs ys = AllByRecursion (λ x. AllByRecursion (IsInStep x) ys) xs

-- each two calls, of any areas
abbrev pub AreInStep : (ℕ → View) → Type 0
AreInStep views = (a b : ℕ) → LinesInStep (views a).line (views b).line

-- After k calls of the disk and i notes: the calls up to number k had at most i notes before them, the others at least i.
abbrev pub IsAround : ℕ → ℕ → Call → Type 0
IsAround k i call = (call.number ≤ k → call.notes ≤ i) × (k < call.number → i ≤ call.notes)

-- an area in such a crash: its writes by then, and what is left of it
pub record WasAt (v : View) (k i : ℕ) (made : List Write) (left : List ℕ) : Type 0 where
  pub around : AllByRecursion (IsAround k i) v.line
  pub writes : IsTrue v.here → made ≡ (area_after k v).writes
  pub leaves : IsTrue v.here → Leaves (area_after k v) left

-- A moment that was, and a crash that might have been then. The clock is the number of calls and notes.
pub record Was (views : ℕ → View) (calls notes m : ℕ) (c : Crash) : Type 0 where
  pub k : ℕ
  pub at : k + c.notes ≡ m
  pub made : k ≤ calls
  pub noted : c.notes ≤ notes
  pub each : (a : ℕ) → WasAt (views a) k c.notes (c.writes a) (c.image a)

-- While the disk tells of no crash, the clock shows one more, which is no moment: all calls until then are the next call.
abbrev pub late : Bool → ℕ
late true = 0
late false = 1

abbrev pub kept_story : (ℕ → View) → Bool → ℕ → ℕ → ℕ → Story
kept_story views whole areas made notes = record {
  counts = whole;
  tells = λ a. (views a).here;
  areas = areas;
  area = λ a. area_now (views a);
  notes = notes;
  moment = made + notes + late whole;
  left_at = Was views made notes;
}

-- A call was made by then. While no crash is told of, it may be the next one, with these notes before it.
pub record IsDated (made more notes : ℕ) (call : Call) : Type 0 where
  pub first : 0 < call.number
  pub number : call.number ≤ made + more
  pub early : call.notes ≤ notes
  pub next : made < call.number → notes ≤ call.notes

-- each call of each area was made by then
abbrev pub AreDated : Bool → List Slot → ℕ → ℕ → Type 0
AreDated own areas made notes = (a : ℕ) → AllByRecursion (IsDated made (late (all_own own areas)) notes) (view_at areas a).line

abbrev pub areas_story : Bool → List Slot → ℕ → ℕ → Story
areas_story own areas made notes = kept_story (view_at areas) (all_own own areas) (length areas) made notes

-- a part tells of its area alone, and of no moment until it is back
abbrev pub part_story : ℕ → AreaLog → ℕ → ℕ → Story
part_story area log made notes = kept_story (only area (log_view log)) false 0 made notes
