-- What each call of an engine says: what it is answered, by which events, for what the disk stands behind it, and what a crash at any moment
-- of it leaves.
use Rattle.std.specs.Prelude.{◌≡◌, ℕ, true, List, [], ◌∷◌, map, Some, None, IsTrue}
use Rattle.map_model.specs.declared.call.Call.{Call}
use Rattle.map_model.specs.Pairings.{GoesOn, is_last}
use Rattle.run_crashes.specs.core_state.Openings.{Opening}
use Rattle.run_crashes.specs.core_state.Events.{Event}
use Rattle.lean_disk.specs.Moments.{LeavesOnly}
use Rattle.lean_disk.specs.Story.{Crash, Story}
use Rattle.run_crashes.specs.core_calls.Deeds.{Outcome, answered, asked, in_words}
use Rattle.run_crashes.specs.core_calls.Fronts.{Done, front, outcomes}
use Rattle.run_crashes.specs.core_calls.Refusals.{Limits}
use Rattle.run_crashes.specs.core_calls.Runs.{EachTells, Tells}
use Rattle.run_crashes.specs.core_calls.Steps.{FollowsConflict, IsAbortOf, IsAnAbort, hindered_in}
use Rattle.run_crashes.specs.disk_runs.Masters.{IsNoEarlier}
use Rattle.run_crashes.specs.disk_runs.Stands.{Known, Stands}
use Rattle.log_calls.specs.Calls.{KeepsMoments, KeepsNotes}
use Rattle.run_crashes.specs.worker_log.Logs.{Log}
use Rattle.run_crashes.specs.Laws.{CommitsNone}
use Rattle.run_crashes.specs.Lines.{CallLeaves, notes_of}

-- ## Between two calls

-- The outcomes so far are told by their events, all their lines are out, and the disk stands for the events. It was s0 when the run began.
pub record Between (l : Limits) (g : Opening) (group : ℕ) (xs : List Done) (s0 : Crash) (k : Known) (s : Story) : Type 0 where
  pub told : EachTells l g group xs
  pub stands : Stands g (front xs) s0 k s
  pub counts : IsTrue s.counts
  pub notes : s.notes ≡ notes_of g xs s0

-- ## Lines

-- the next line is a new one: the newest outcome was the last of its line, and no abort is due behind it
abbrev pub IsNewLine : List Outcome → Type 0
IsNewLine [] = Unit {0}
IsNewLine (y ∷ earlier) = (hindered_in y.deed ≡ None) × (is_last (answered y.deed) ≡ true)

-- x may come next: it is the abort that is due, where one is, and it goes on with a line that is not done with
pub record MayCome (xs : List Done) (x : Outcome) : Type 0 where
  pub hindered : FollowsConflict (outcomes xs) x
  pub goes_on : GoesOn (map in_words (outcomes xs)) (in_words x)

-- What may come: on a new line all but the abort of another call; behind a call that met a conflict, its abort; and behind a pair of a scan what the
-- scan does next.
pub record ComingLaws (xs : List Done) (x : Outcome) : Type 0 where
  pub new : IsNewLine (outcomes xs) → IsAnAbort x.deed → MayCome xs x
  pub more : (y : Done) → hindered_in y.outcome.deed ≡ None → x.session ≡ y.outcome.session → asked x.deed ≡ asked y.outcome.deed → IsAnAbort x.deed → MayCome (y ∷ xs) x
  pub abort : (y : Done) (c : Call) → hindered_in y.outcome.deed ≡ Some c → x.session ≡ y.outcome.session → IsAbortOf c x.deed → MayCome (y ∷ xs) x

-- behind whatever came before
abbrev pub EveryComing : Type 0
EveryComing = (xs : List Done) (x : Outcome) → ComingLaws xs x

-- ## One call

-- It was answered. The outcome of x is the answer, and the events of x are what its body did behind those of xs; the disk stands for these
-- too; and a crash at any moment of it leaves what one after the first of them does, with no line of it out.
pub record CallAnswers (l : Limits) (g : Opening) (group : ℕ) (xs : List Done) (x : Done) (s0 : Crash) (k : Known) (old new : Story) : Type 0 where
  pub answer : Tells l g group xs x
  pub known : Known
  pub no_earlier : IsNoEarlier x.events k.master known.master
  pub stands : Stands g (front (x ∷ xs)) s0 known new
  pub notes : new.notes ≡ old.notes
  pub any_moment : LeavesOnly old new (CallLeaves g xs x.events s0 k.master)

-- It was not answered, since a device failed: by then it had committed nothing, or it is the first part of a call that would be answered so.
pub data CallStops (l : Limits) (g : Opening) (group : ℕ) (xs : List Done) (s0 : Crash) (k : Known) (old new : Story) : Type 0 where
  Nothing : (es : List Event) → CommitsNone g xs es → LeavesOnly old new (CallLeaves g xs es s0 k.master) → CallStops l g group xs s0 k old new
  Part : (x : Done) → Tells l g group xs x → LeavesOnly old new (CallLeaves g xs x.events s0 k.master) → CallStops l g group xs s0 k old new

-- ## One call on its log

-- What it says, answered or not: it keeps the moments of a run, and no line came out.
pub record OnLog (w : ℕ) (was : Log) (old new : Story) : Type 0 where
  pub moments : KeepsMoments w was old new
  pub told : KeepsNotes w was old new
  pub notes : new.notes ≡ old.notes
