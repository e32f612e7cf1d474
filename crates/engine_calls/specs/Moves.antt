-- A part of a call that goes on from where the disk stands, wherever the call began: pages are saved and synced, logs flushed, and all synced. A fault in a call and the sync that is due before
-- a begin are such parts.
use Rattle.std.specs.Prelude.{◌≡◌, ◌<◌, ◌≤◌, ◌-◌, ℕ, true, List, [], ◌∷◌, ◌++◌}
use Rattle.map_model.specs.Lists.{all}
use Rattle.page_model.specs.Page.{Page}
use Rattle.run_crashes.specs.core_state.Openings.{Opening}
use Rattle.run_crashes.specs.core_state.Events.{Event}
use Rattle.lean_disk.specs.Calls.{Synced, Wrote}
use Rattle.lean_disk.specs.Moments.{LeavesOnly}
use Rattle.lean_disk.specs.Story.{Crash, IsLawful, Story}
use Rattle.lean_disk.specs.declared.disk.Did.TheVariants.{Done}
use Rattle.run_crashes.specs.disk_slots.declared.master.Master.{Master}
use Rattle.run_crashes.specs.disk_slots.Pages.{page_slot}
use Rattle.run_crashes.specs.page_store.Saved.{place_of}
use Rattle.run_crashes.specs.worker_log.Logs.{Log}
use Rattle.run_crashes.specs.core_calls.Fronts as fronts
use Rattle.run_crashes.specs.disk_runs.MasterLaws.{IsSync, with_sync}
use Rattle.run_crashes.specs.disk_runs.Masters.{IsNoEarlier}
use Rattle.run_crashes.specs.disk_runs.PageLaws.{IsSave, with_late, with_settled}
use Rattle.run_crashes.specs.disk_runs.Quiet.{is_quiet}
use Rattle.run_crashes.specs.disk_runs.Stands.{Known, Stands}
use Rattle.log_calls.specs.Syncs.{KeepsEither, SyncsOn}
use Rattle.log_calls.specs.Wholes.{IsWhole, flush_of}
use Rattle.engine_calls.specs.Clauses.{OnLog}
use Rattle.engine_calls.specs.Parts.{Passes}

-- Behind the events es it has come by more of them from old, of which a was known, to new.
pub record Moved (g : Opening) (xs : List fronts.Done) (es more : List Event) (s0 : Crash) (a b : Known) (old new : Story) : Type 0 where
  pub line : IsNoEarlier more a.master b.master
  pub passes : Passes g xs es more s0 a old new
  pub stands : Stands g (fronts.front xs ++ (es ++ more)) s0 b new
  pub notes : new.notes ≡ old.notes

-- From old, where the disk stands for the events es.
pub record MoveLaws (g : Opening) (xs : List fronts.Done) (es : List Event) (s0 : Crash) (a : Known) (old mid new : Story) : Type 0 where
  -- events that the disk does not see
  pub rest : (more : List Event) → all is_quiet more ≡ true → Moved g xs es more s0 a a old old
  -- a page is saved
  pub save : (p : ℕ) (y : Page) → IsSave g (fronts.front xs ++ es) a p y → Wrote 1 (place_of p (1 - (a.firm p).slot)) (page_slot y) Done old new → Moved g xs es (Event.Save p ∷ []) s0 a (with_late a p y) old new
  -- the pages are synced
  pub settle : Synced 1 Done old new → Moved g xs es [] s0 a (with_settled a) old new
  -- a log is flushed whole
  pub flush : (w : ℕ) (is : Log) → 0 < w → w ≤ g.workers → OnLog w (a.log w) old new → (k : IsWhole g (fronts.front xs ++ es) s0 a w (a.log w) is new) → Moved g xs es (flush_of w (a.log w)) s0 a k.known old new
  -- all are synced
  pub sync : (m : Master) (n : ℕ) → IsSync g (fronts.front xs ++ es) a m n → SyncsOn m old new → KeepsEither m old new → LeavesOnly old new (λ c. c.notes ≡ old.notes) → new.notes ≡ old.notes
      → Moved g xs es (Event.Sync n ∷ []) s0 a (with_sync a m n) old new
  -- and what goes on from there
  pub join : (more later : List Event) (b c : Known) → Moved g xs es more s0 a b old mid → Moved g xs (es ++ more) later s0 b c mid new → Moved g xs es (more ++ later) s0 a c old new

-- in each run
abbrev pub EveryMove : (old mid new : Story) → Type 0
EveryMove old mid new = (g : Opening) (xs : List fronts.Done) (es : List Event) (s0 : Crash) (a : Known) → IsLawful old → Stands g (fronts.front xs ++ es) s0 a old → MoveLaws g xs es s0 a old mid new
