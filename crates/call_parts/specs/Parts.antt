-- A part of a call: it goes on from wherever the call has come to, so that a call is one part behind another.
use Rattle.std.specs.Prelude.{◌≡◌, ◌≤◌, ◌<◌, ◌++◌, ℕ, Bool, false, List}
use Rattle.map_model.specs.Lists.{any}
use Rattle.session_state.specs.core_state.Openings.{Opening}
use Rattle.session_state.specs.core_state.Events as happening
use Rattle.session_state.specs.core_state.Local.{is_sync}
use Rattle.session_state.specs.core_state.States.{State}
use Rattle.session_state.specs.core_state.Steps.{AllMet}
use Rattle.session_state.specs.core_calls.Fronts.{Done, front}
use Rattle.session_state.specs.disk_runs.Masters.{IsNoEarlier}
use Rattle.session_state.specs.disk_runs.Stands.{Known, Stands}
use Rattle.lean_disk.specs.Moments.{LeavesOnly}
use Rattle.lean_disk.specs.Story.{Crash, Story}
use Rattle.session_state.specs.row_words.declared.event.Event.{Event}
use Rattle.session_state.specs.row_words.Moments.{events_of}
use Rattle.session_state.specs.rows_trait.declared.view.View.{View}
use Rattle.session_state.specs.engine_calls.Moves.{Moved}
use Rattle.session_state.specs.engine_calls.Parts.{Passes, behind_first}
use Rattle.session_state.specs.engine_trait.Logs.{Logs}
use Rattle.session_state.specs.Ties.{Behind}
use Rattle.call_parts.specs.Areas.{Around, Beside, is_save}
use Rattle.call_parts.specs.Memory.{IsOf, Memory}

-- In a run, from this state on: the need of each event is met, and each log of so many has their records and flushes.
pub record Logged (many : ℕ) (g : Opening) (s : State) (es : List happening.Event) (was is : Memory) : Type 0 where
  pub met : AllMet g s es
  pub logs : (w : ℕ) → 0 < w → w ≤ many → Logs w g s es (was.log w) (is.log w)

-- In a run, from where the disk stands: it has come to stand for these events too, by what is in memory then; and at every moment the areas in which they do
-- nothing are as they were.
pub record GoesOn (many : ℕ) (g : Opening) (xs : List Done) (first es : List happening.Event) (s0 : Crash) (a : Known) (is : Memory) (old new : Story) : Type 0 where
  pub known : Known
  pub moved : Moved g xs first es s0 a known old new
  pub has : IsOf g is known
  pub within : LeavesOnly old new (Beside many (any is_save es) (any is_sync es) old)

-- By these events the view went on from v to w, what is in memory from `was` to `is`, and the disk from old to new, in an engine of so many logs: so it is in each
-- run in which the view has seen the events of the outcomes and then some first ones of a call, wherever the disk stands in it.
pub record Part (many : ℕ) (events : List Event) (v w : View) (was is : Memory) (old new : Story) : Type 0 where
  -- what the view has seen more
  pub given : w.given ≡ v.given
  pub seen : w.seen ≡ v.seen ++ events
  -- the areas in which nothing was done
  pub around : Around many (any is_save (events_of events)) (any is_sync (events_of events)) old new
  -- a sync alone writes the next master, each sync one at most
  pub master : any is_sync (events_of events) ≡ false → is.master ≡ was.master
  pub no_earlier : IsNoEarlier (events_of events) was.master is.master
  -- the core, and the logs in memory
  pub logged : (g : Opening) (xs : List Done) (first : List happening.Event) → Behind g xs first v → Logged many g (behind_first g xs first) (events_of events) was is
  -- the disk
  pub goes : (g : Opening) (xs : List Done) (first : List happening.Event) → Behind g xs first v → (s0 : Crash) (a : Known) → Stands g (front xs ++ first) s0 a old → IsOf g was a
      → GoesOn many g xs first (events_of events) s0 a is old new

-- In a run, from where the disk stood: a crash at any moment leaves what one behind some first of these events does, and the areas aside as they were.
pub record FailsIn (many : ℕ) (saves syncs : Bool) (g : Opening) (xs : List Done) (first es : List happening.Event) (s0 : Crash) (a : Known) (old new : Story) : Type 0 where
  pub passes : Passes g xs first es s0 a old new
  pub within : LeavesOnly old new (Beside many saves syncs old)

-- A device failed while these events were to happen, from v on; so it is in each run, wherever the disk stood in it.
pub record Failed (many : ℕ) (saves syncs : Bool) (events : List happening.Event) (v : View) (was : Memory) (old new : Story) : Type 0 where
  pub around : Around many saves syncs old new
  pub fails : (g : Opening) (xs : List Done) (first : List happening.Event) → Behind g xs first v → (s0 : Crash) (a : Known) → Stands g (front xs ++ first) s0 a old → IsOf g was a
      → FailsIn many saves syncs g xs first events s0 a old new
