-- What is recovered after a crash of the row: nothing, or the second transaction of worker 2 alone.
use Rattle.std.specs.Prelude.{◌≡◌, ◌⊎◌, ℕ, suc, Bool, true, false, List, [], ◌∷◌, length, take}
use Rattle.map_model.specs.Journals.{Name, after}
use Rattle.map_model.specs.Lists.{any}
use Rattle.disk_runs.specs.image_model.Entries.{Entry, is_commit}
use Rattle.disk_runs.specs.core_state.Openings.{Opening, first_map}
use Rattle.disk_runs.specs.core_state.Events.{Event}
use Rattle.disk_runs.specs.core_crash.Example.{events, second}
use Rattle.disk_runs.specs.disk_slots.declared.master.Master.{Master}
use Rattle.disk_runs.specs.disk_image.Runs.{entries_in}
use Rattle.disk_runs.specs.disk_image.Shown.{Areas, DiskStandsFor, logged_in}
use Rattle.lean_disk.specs.Moments.{LeavesOnly}
use Rattle.lean_disk.specs.Story.{Crash, Story}
use Rattle.disk_runs.specs.worker_log.Logs.{Log}
use Rattle.disk_runs.specs.core_disk.Held.{HoldsRun}
use Rattle.disk_runs.specs.core_disk.Versions.{then}
use Rattle.disk_runs.specs.Fair.{IsFairFrom}
use Rattle.row_crashes.specs.Row.{IsRowOpening, Runs}

-- the records of log w, as the bytes have them
abbrev pub shown : Master → Areas → ℕ → List Entry
shown n area w = entries_in (logged_in n w (area (suc w)))

-- one of them is a commit
abbrev pub has_commit : List Entry → Bool
has_commit l = any (λ r. is_commit r.kind) l

-- worker 2's second transaction by its name
abbrev pub second_name : Name
second_name = record { session = 2; number = 2 }

-- Where log 1's record or log 2's commit is not there, the disk stands for the first map, and nobody won. Where both are, it
-- stands for the map after worker 2's second transaction, which won alone.
pub data Left (g : Opening) (n : Master) (area : Areas) : Type 0 where
  Nothing : (shown n area 1 ≡ []) ⊎ (has_commit (shown n area 2) ≡ false) → DiskStandsFor n area (first_map g) [] → Left g n area
  Second : length (shown n area 1) ≡ 1 → has_commit (shown n area 2) ≡ true → DiskStandsFor n area (after (first_map g) (second ∷ [])) (second_name ∷ []) → Left g n area

-- the row and a flush of log 1 behind it
abbrev pub ripe_events : List Event
ripe_events = then events (Event.Flush 1 1)

-- Of a crash in the flush of log 2, and of one behind it, which has the commit; and of one behind the flush of log 1.
pub record RowLeaves (g : Opening) (n : Master) (area : Areas) : Type 0 where
  pub during : HoldsRun g (take 14 events) n area → Left g n area
  pub behind : HoldsRun g events n area → Left g n area
  pub committed : HoldsRun g events n area → has_commit (shown n area 2) ≡ true
  pub ripe : HoldsRun g ripe_events n area → DiskStandsFor n area (after (first_map g) (second ∷ [])) (second_name ∷ [])

abbrev pub EveryLeft : Type 0
EveryLeft = (g : Opening) (n : Master) (area : Areas) → IsRowOpening g → RowLeaves g n area

-- At every moment of a call behind the row a fair crash leaves that.
abbrev pub AnyMomentLeft : (first second : Log) (old new : Story) → Type 0
AnyMomentLeft first second old new = (g : Opening) (s0 : Crash) (n : Master) → Runs events g s0 n first second old → LeavesOnly old new (λ c. IsFairFrom g.workers s0 c → Left g n c.image)
