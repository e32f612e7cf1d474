-- A whole run, call by call: what holds between two calls, and at every moment since it began.
use Rattle.std.specs.Prelude.{◌≡◌, ◌≤◌, ◌+◌, ℕ, suc, Bool, List, [], ◌∷◌, ◌++◌, length, IsTrue}
use Rattle.map_model.specs.Outputs.{Reply}
use Rattle.run_crashes.specs.core_state.Openings.{Opening}
use Rattle.run_crashes.specs.core_state.Events.{Event}
use Rattle.lean_disk.specs.Area.{Leaves}
use Rattle.lean_disk.specs.Moments.{LeavesOnly}
use Rattle.lean_disk.specs.Story.{Crash, IsLawful, Story, Tells}
use Rattle.run_crashes.specs.disk_slots.declared.master.Master.{Master}
use Rattle.run_crashes.specs.core_calls.Fronts.{Done, front}
use Rattle.run_crashes.specs.core_calls.Refusals.{Limits}
use Rattle.run_crashes.specs.core_calls.Runs as runs
use Rattle.run_crashes.specs.core_calls.Runs.{EachTells}
use Rattle.run_crashes.specs.disk_runs.Fair.{TellsAll}
use Rattle.run_crashes.specs.disk_runs.Masters.{IsOfRunBy}
use Rattle.run_crashes.specs.disk_runs.Stands.{Known, Stands}
use Rattle.run_crashes.specs.Laws.{CommitsNone, OfEachFirst, Passing}
use Rattle.run_crashes.specs.Lines.{CallLeaves, RunLeft, lines_of, notes_of}
use Rattle.engine_calls.specs.Clauses.{Between, CallAnswers}

-- ## Lines

-- A crash while the lines of an outcome are put: the first of them are out, and the areas are as they were when the call was answered.
pub record LineCrash (g : Opening) (xs : List Done) (x : Done) (s0 : Crash) (new : Story) (c : Crash) : Type 0 where
  pub later : List Reply
  pub first : List Reply
  pub split : later ++ first ≡ lines_of g xs x
  pub notes : c.notes ≡ notes_of g xs s0 + length first
  pub writes : (a : ℕ) → Tells new a → c.writes a ≡ (new.area a).writes
  pub leaves : (a : ℕ) → Tells new a → Leaves (new.area a) (c.image a)

-- all of them are out, and nothing else has happened to the disk
pub record LinesOut (g : Opening) (xs : List Done) (x : Done) (s0 : Crash) (new out : Story) : Type 0 where
  pub any_moment : LeavesOnly new out (LineCrash g xs x s0 new)
  pub tells : TellsAll g.workers out
  pub areas : (a : ℕ) → a ≤ suc g.workers → out.area a ≡ new.area a
  pub counts : IsTrue out.counts
  pub notes : out.notes ≡ notes_of g (x ∷ xs) s0

-- ## A run

-- From one story to now by these calls and their lines, on a disk whose master was m: it is as between two calls, and a crash at any moment leaves
-- what the lines that were out by then say, behind events of these calls, or such events of one that was not answered.
pub record Runs (l : Limits) (g : Opening) (group : ℕ) (Such : List Done → List Event → Type 0) (xs : List Done) (s0 : Crash) (m : Master) (k : Known) (from now : Story) : Type 0 where
  pub between : Between l g group xs s0 k now
  pub of_run : IsOfRunBy (front xs) m k.master
  pub any_moment : LeavesOnly from now (RunLeft g Such xs s0 m)

-- what is left of it where a call was not answered: these calls tell of all that was committed
pub record LeftOf (l : Limits) (g : Opening) (group : ℕ) (Such : List Done → List Event → Type 0) (s0 : Crash) (m : Master) (from now : Story) : Type 0 where
  pub calls : List Done
  pub told : EachTells l g group calls
  pub any_moment : LeavesOnly from now (RunLeft g Such calls s0 m)

-- How it begins, and goes on by one call.
pub record RunLaws (l : Limits) (g : Opening) (group : ℕ) (Such : List Done → List Event → Type 0) (s0 : Crash) (m : Master) (k : Known) (from old new out : Story) : Type 0 where
  pub begins : IsLawful from → IsTrue from.counts → Stands g [] s0 k from → IsOfRunBy [] m k.master → from.notes ≡ notes_of g [] s0 → Runs l g group Such [] s0 m k from from
  pub answered : (xs : List Done) (x : Done) → Runs l g group Such xs s0 m k from old → (a : CallAnswers l g group xs x s0 k old new) → LinesOut g xs x s0 new out → Runs l g group Such (x ∷ xs) s0 m a.known from out
  -- some of its lines are out when the device fails
  pub unheard : (xs : List Done) (x : Done) → Runs l g group Such xs s0 m k from old → CallAnswers l g group xs x s0 k old new → LeavesOnly new out (LineCrash g xs x s0 new) → LeftOf l g group Such s0 m from out
  -- a call stops, as CallStops says: it committed nothing, and its events are such, however many happened; or it is the first part of one that would be answered so
  pub stopped : (xs : List Done) → Runs l g group Such xs s0 m k from old → (es : List Event) → CommitsNone g xs es → OfEachFirst (Such xs) es
      → LeavesOnly old new (CallLeaves g xs es s0 k.master) → LeftOf l g group Such s0 m from new
  pub in_part : (xs : List Done) (x : Done) → Runs l g group Such xs s0 m k from old → runs.Tells l g group xs x → LeavesOnly old new (CallLeaves g xs x.events s0 k.master)
      → LeftOf l g group Such s0 m from new

-- in each run
abbrev pub EveryRunFor : (List Done → List Event → Type 0) → (from old new out : Story) → Type 0
EveryRunFor Such from old new out = (l : Limits) (g : Opening) (group : ℕ) (s0 : Crash) (m : Master) (k : Known) → RunLaws l g group Such s0 m k from old new out

-- and for each test of events
abbrev pub EveryRun : (from old new out : Story) → Type 0
EveryRun from old new out = (test : List Done → List Event → Bool) → EveryRunFor (Passing test) from old new out
