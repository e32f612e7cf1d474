-- The number of a cut, as it is found.
use Rattle.std.specs.Prelude.{◌≡◌, ◌<◌, ◌≤◌, ℕ, List, Option, Some, slice_index}
use Rattle.disk_runs.specs.core_state.Openings.{Opening}
use Rattle.disk_runs.specs.core_state.States.{State, flushed_by_all}
use Rattle.disk_runs.specs.core_state.Events.{Event}
use Rattle.disk_runs.specs.core_state.Steps.{state_after}
use Rattle.core_covers.specs.Covers.{AreCovers, IsCovered}
use Rattle.core_covers.specs.Cuts.{IsCutAt, MayCutAt}
use Rattle.core_covers.specs.Firsts.{first_of}
use Rattle.core_covers.specs.Lows.{IsAllFlushed}
use Rattle.lean_disk.specs.Story.{Crash, Story}
use Rattle.disk_runs.specs.Rings.{MayCut}
use Rattle.disk_runs.specs.Stands.{Known, Stands}
use Rattle.checkpointer.specs.Savers.{firm_of}

-- the cover of each shard
abbrev pub cover_of : List ℕ → ℕ → ℕ
cover_of covers k = slice_index covers k

-- below a number, if there is one
abbrev pub IsBelow : Option ℕ → ℕ → Type 0
IsBelow first x = (n : ℕ) → first ≡ Some n → x < n

-- The greatest number up to these covers and this floor, and below this first record.
pub record IsNumber (covers : List ℕ) (floor : ℕ) (first : Option ℕ) (x : ℕ) : Type 0 where
  pub covered : IsCovered (cover_of covers) x
  pub low : x ≤ floor
  pub below : IsBelow first x
  pub greatest : (y : ℕ) → IsCovered (cover_of covers) y → y ≤ floor → IsBelow first y → y ≤ x

-- a session's first record
pub record IsFirstOne (g : Opening) (s : State) (n : ℕ) : Type 0 where
  pub session : ℕ
  pub low : 0 < session
  pub high : session ≤ g.workers
  pub is : first_of s session ≡ Some n

-- that of one of the open transactions, and none is earlier
pub record IsFirstOfAll (g : Opening) (s : State) (first : Option ℕ) : Type 0 where
  pub one : (n : ℕ) → first ≡ Some n → IsFirstOne g s n
  pub least : (w n : ℕ) → 0 < w → w ≤ g.workers → first_of s w ≡ Some n → (f : ℕ) × (first ≡ Some f) × (f ≤ n)

-- Behind a sync it is the number of a cut.
abbrev pub EveryNumber : Type 0
EveryNumber = (g : Opening) (es : List Event) (covers : List ℕ) (floor : ℕ) (first : Option ℕ) (x : ℕ) → floor ≡ flushed_by_all g (state_after g es) → IsAllFlushed g (state_after g es) → IsFirstOfAll g (state_after g es) first → IsNumber covers floor first x
    → IsCutAt g (state_after g es) (cover_of covers) x

-- And a cut may be made at such a number, where covers are what they are.
abbrev pub EveryMayCut : Story → Type 0
EveryMayCut s = (s0 : Crash) (g : Opening) (es : List Event) (k : Known) (cover : ℕ → ℕ) (x : ℕ) → Stands g es s0 k s → AreCovers g (state_after g es) cover (firm_of k) → MayCutAt g (state_after g es) cover x → MayCut g es k x
