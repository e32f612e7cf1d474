-- A cut of all logs.
use Rattle.std.specs.Prelude.{◌≡◌, ◌<◌, ◌≤◌, ◌+◌, ◌^◌, ◌++◌, ◌∷◌, [], ℕ, List, length}
use Rattle.disk_runs.specs.core_state.Openings.{Opening}
use Rattle.disk_runs.specs.core_state.States.{flushed_by_all}
use Rattle.disk_runs.specs.core_state.Events.{Event}
use Rattle.disk_runs.specs.core_state.Steps.{state_after}
use Rattle.disk_runs.specs.disk_image.Shown.{head_of}
use Rattle.disk_runs.specs.disk_slots.declared.master.Master.{Master}
use Rattle.lean_disk.specs.Moments.{LeavesOnly}
use Rattle.lean_disk.specs.Story.{Crash, Story}
use Rattle.disk_runs.specs.worker_log.Calls.{cut_log}
use Rattle.disk_runs.specs.worker_log.Logs.{Log, passed_by}
use Rattle.disk_runs.specs.Masters.{IsNoEarlier}
use Rattle.disk_runs.specs.Moments.{LeavesSome}
use Rattle.disk_runs.specs.Rings.{MayCut, heads_of}
use Rattle.disk_runs.specs.Stands.{Known, Stands}

-- the logs are those of the master, so many, and their numbers of blocks are short
pub record AreRings (count : ℕ) (log : ℕ → Log) (m : Master) : Type 0 where
  pub logs : length m.heads ≡ count
  pub few : count ≤ 16
  pub head : (w : ℕ) → 0 < w → w ≤ count → (log w).head ≡ head_of m w
  pub short : (w : ℕ) → 0 < w → w ≤ count → (log w).next < 2 ^ 63
  pub last : m.sequence + 1 < 2 ^ 63

-- each has passed the blocks that have no record above x
abbrev pub ArePassed : (x count : ℕ) → (was is : ℕ → Log) → Type 0
ArePassed x count was is = (w : ℕ) → 0 < w → w ≤ count → is w ≡ cut_log (passed_by x (was w).ends) (was w)

-- A run stands on the disk, of which this is known: these logs and this master; all logs are flushed up to the floor, and a cut may be made at x.
pub record IsDue (g : Opening) (es : List Event) (s0 : Crash) (k : Known) (x floor count : ℕ) (log : ℕ → Log) (m : Master) (s : Story) : Type 0 where
  pub stands : Stands g es s0 k s
  pub count_is : g.workers ≡ count
  pub log_is : (w : ℕ) → 0 < w → w ≤ count → k.log w ≡ log w
  pub master_is : k.master ≡ m
  pub floor_is : floor ≡ flushed_by_all g (state_after g es)
  pub may_cut : MayCut g es k x

-- Behind the cut the run goes on by its event, with these logs and this master; of pages the same is known.
pub record IsCutOff (g : Opening) (es : List Event) (s0 : Crash) (k : Known) (x count : ℕ) (log : ℕ → Log) (m : Master) (s : Story) : Type 0 where
  pub known : Known
  pub stands : Stands g (es ++ Event.Cut x (heads_of k x) ∷ []) s0 known s
  pub log_is : (w : ℕ) → 0 < w → w ≤ count → known.log w ≡ log w
  pub master_is : known.master ≡ m
  pub no_earlier : IsNoEarlier (Event.Cut x (heads_of k x) ∷ []) k.master known.master
  pub firm : known.firm ≡ k.firm
  pub late : known.late ≡ k.late

-- so in each run
abbrev pub CutGoes : (x floor count : ℕ) → (was is : ℕ → Log) → (m n : Master) → (old new : Story) → Type 0
CutGoes x floor count was is m n old new = (g : Opening) (es : List Event) (s0 : Crash) (k : Known) → IsDue g es s0 k x floor count was m old → IsCutOff g es s0 k x count is n new

-- At every moment of it a fair crash leaves what one before the event does, or what one after it does; and no line came out.
pub record KeepsCut (x floor count : ℕ) (log : ℕ → Log) (m : Master) (old new : Story) : Type 0 where
  pub moments : (g : Opening) (es : List Event) (s0 : Crash) (k : Known) → IsDue g es s0 k x floor count log m old → LeavesOnly old new (LeavesSome g es (Event.Cut x (heads_of k x) ∷ []) s0 k.master)
  pub told : (g : Opening) (es : List Event) (s0 : Crash) (k : Known) → IsDue g es s0 k x floor count log m old → LeavesOnly old new (λ c. c.notes ≡ old.notes)
