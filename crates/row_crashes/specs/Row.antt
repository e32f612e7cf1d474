-- The run of two workers of core_crash's example, carried to a disk.
use Rattle.std.specs.Prelude.{◌≡◌, ◌<◌, ◌-◌, ◌^◌, ℕ, List, []}
use Rattle.page_model.specs.Page.{empty_leaf}
use Rattle.disk_runs.specs.core_state.Openings.{Opening}
use Rattle.disk_runs.specs.core_state.Events.{Event}
use Rattle.disk_runs.specs.core_crash.Example.{events}
use Rattle.lean_disk.specs.Moments.{LeavesOnly}
use Rattle.lean_disk.specs.Story.{Crash, Story}
use Rattle.disk_runs.specs.disk_image.Formats.{format_of}
use Rattle.disk_runs.specs.disk_slots.declared.master.Master.{Master}
use Rattle.disk_runs.specs.worker_log.Logs.{Log}
use Rattle.disk_runs.specs.Fair.{IsFairFrom}
use Rattle.disk_runs.specs.Moments.{LeavesSome, Survives}
use Rattle.disk_runs.specs.Openings.{Opens}
use Rattle.disk_runs.specs.Pages.{Firm}
use Rattle.disk_runs.specs.Stands.{Known, Stands}

-- Two workers, no number used, the root an empty leaf; the keys 5 and 6 have rows of their own, and a transaction may change one.
pub record IsRowOpening (g : Opening) : Type 0 where
  pub workers : g.workers ≡ 2
  pub base : g.base ≡ 0
  pub leaf : g.node 0 ≡ empty_leaf 0 (2 ^ 64 - 1)
  pub five : g.row_of 5 ≡ 5
  pub six : g.row_of 6 ≡ 6
  pub changes : 0 < g.changes

-- After these events the disk stands by the master n, with these two logs.
pub record Runs (es : List Event) (g : Opening) (s0 : Crash) (n : Master) (first second : Log) (s : Story) : Type 0 where
  pub opening : IsRowOpening g
  pub known : Known
  pub stands : Stands g es s0 known s
  pub master : known.master ≡ n
  pub first_is : known.log 1 ≡ first
  pub second_is : known.log 2 ≡ second

-- A disk on which some events have happened is one on which more have; each log from what it was to what it is.
abbrev pub Carries : (es more : List Event) (first second new_first new_second : Log) (old new : Story) → Type 0
Carries es more first second new_first new_second old new = (g : Opening) (s0 : Crash) (n : Master) → Runs es g s0 n first second old → Runs more g s0 n new_first new_second new

-- At every moment a fair crash leaves what one after some first events of the run does.
abbrev pub AnyMoment : (es : List Event) (first second : Log) (old new : Story) → Type 0
AnyMoment es first second old new = (g : Opening) (s0 : Crash) (n : Master) → Runs es g s0 n first second old → LeavesOnly old new (LeavesSome g [] events s0 n)

-- So recovery gives the map after a closed set of what was committed by then, in which is each transaction that was ripe.
abbrev pub AnyMomentLives : (es : List Event) (first second : Log) (old new : Story) → Type 0
AnyMomentLives es first second old new = (g : Opening) (s0 : Crash) (n : Master) → Runs es g s0 n first second old → LeavesOnly old new (λ c. IsFairFrom g.workers s0 c → Survives g [] events n c.image)

-- A run of no event stands on a disk that was opened so.
abbrev pub EveryBegun : (s : Story) → Type 0
EveryBegun s = (g : Opening) (s0 : Crash) (n : Master) (log : ℕ → Log) (firm : ℕ → Firm) → IsRowOpening g → Opens g s0 n log firm s → Runs [] g s0 n (log 1) (log 2) s

-- There is such an opening, of sixteen pages.
pub record RowOpens : Type 0 where
  pub opening : Opening
  pub is : IsRowOpening opening
  pub format : opening.format ≡ format_of 16
