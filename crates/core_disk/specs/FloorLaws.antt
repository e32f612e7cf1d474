-- What recovery finds by the floor of a master, and how it stays one.
use Rattle.std.specs.Prelude.{◌≡◌, ◌<◌, ◌≤◌, ℕ, false, List}
use Rattle.map_model.specs.Lists.{Has}
use Rattle.map_model.specs.Journals.{Txn}
use Rattle.core_crash.specs.image_model.Entries.{Entry, Contents}
use Rattle.core_crash.specs.image_model.Ends.{is_kept, reach}
use Rattle.core_crash.specs.image_model.Images.{Image, found}
use Rattle.core_crash.specs.core_state.Openings.{Opening}
use Rattle.core_crash.specs.core_state.States.{State, flushed_by_all}
use Rattle.core_crash.specs.core_state.Events.{Event}
use Rattle.core_crash.specs.core_state.Steps.{state_after}
use Rattle.core_crash.specs.Crashes.{Leaves, image_of, journal_in}
use Rattle.core_disk.specs.MasterFloors.{IsFloorOf}
use Rattle.core_disk.specs.Versions.{is_cut, then}

-- the image with another floor
abbrev pub at_floor : ℕ → Image → Image
at_floor floor i = record i { floor = floor }

-- Among these records the logs reach as far by it as by the state's floor, and of the committed transactions the same are kept.
pub record ReachesAsFar (g : Opening) (s : State) (floor : ℕ) (z : List Entry) : Type 0 where
  pub reach : reach g.workers floor z ≡ reach g.workers s.floor z
  pub kept : (t : Txn) → Has t (journal_in g s) → is_kept g.workers floor z t ≡ is_kept g.workers s.floor z t

-- So it is wherever a crash falls.
abbrev pub EveryFloorReach : Type 0
EveryFloorReach = (g : Opening) (es : List Event) (logs : ℕ → List Entry) (page : ℕ → Contents) (floor : ℕ) → Leaves g es logs page → IsFloorOf g (state_after g es) floor
    → ReachesAsFar g (state_after g es) floor (found (image_of g (state_after g es) logs page))

-- each log begins behind the same number
abbrev pub NoHeadMoves : Opening → (s t : State) → Type 0
NoHeadMoves g s t = (w : ℕ) → 0 < w → w ≤ g.workers → t.head w ≡ s.head w

-- One event more, after which the same master counts.
pub record FloorLaws (g : Opening) (es : List Event) (floor : ℕ) : Type 0 where
  -- the state's own floor is one
  pub own : floor ≡ (state_after g es).floor → IsFloorOf g (state_after g es) floor
  -- where the state's floor stays and nothing is cut
  pub more : (e : Event) → is_cut e ≡ false → (state_after g (then es e)).floor ≡ (state_after g es).floor → IsFloorOf g (state_after g es) floor → IsFloorOf g (state_after g (then es e)) floor
  -- at a sync up to what all logs were flushed to
  pub sync : (n : ℕ) → n ≤ flushed_by_all g (state_after g es) → IsFloorOf g (state_after g es) floor → IsFloorOf g (state_after g (then es (Event.Sync n))) floor
  -- at a cut by which no head moves
  pub cut : (x : ℕ) (heads : ℕ → ℕ) → NoHeadMoves g (state_after g es) (state_after g (then es (Event.Cut x heads))) → IsFloorOf g (state_after g es) floor
      → IsFloorOf g (state_after g (then es (Event.Cut x heads))) floor

-- in each run
abbrev pub EveryFloorStep : Type 0
EveryFloorStep = (g : Opening) (es : List Event) (floor : ℕ) → FloorLaws g es floor
