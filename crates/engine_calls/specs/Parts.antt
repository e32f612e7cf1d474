-- A call in parts: what stands where the first of its events have happened, and how it goes on, ends, or stops there.
use Rattle.std.specs.Prelude.{◌≡◌, ◌≤◌, ◌<◌, ℕ, true, false, List, [], ◌∷◌, ◌++◌}
use Rattle.map_model.specs.Lists.{all}
use Rattle.run_crashes.specs.core_state.Openings.{Opening}
use Rattle.run_crashes.specs.core_state.States.{State}
use Rattle.run_crashes.specs.core_state.Events.{Event}
use Rattle.run_crashes.specs.core_state.Steps.{run, state_after}
use Rattle.lean_disk.specs.Moments.{LeavesOnly}
use Rattle.lean_disk.specs.Story.{Crash, IsLawful, Story}
use Rattle.run_crashes.specs.log_record.declared.record.Record.{Record}
use Rattle.run_crashes.specs.disk_image.Records.{entry_of}
use Rattle.run_crashes.specs.worker_log.Accounts.{Account}
use Rattle.run_crashes.specs.worker_log.Kept.{flushed}
use Rattle.run_crashes.specs.worker_log.Logs.{Log}
use Rattle.run_crashes.specs.core_disk.Versions.{is_cut}
use Rattle.run_crashes.specs.core_calls.Fronts.{Done, front}
use Rattle.run_crashes.specs.core_calls.Refusals.{Limits}
use Rattle.run_crashes.specs.core_calls.Runs.{Tells}
use Rattle.run_crashes.specs.disk_runs.Laws.{with_log}
use Rattle.run_crashes.specs.disk_runs.Logs.{Flushes, Records}
use Rattle.run_crashes.specs.disk_runs.Masters.{IsNoEarlier}
use Rattle.run_crashes.specs.disk_runs.Moments.{LeavesSome}
use Rattle.run_crashes.specs.disk_runs.Quiet.{is_quiet}
use Rattle.run_crashes.specs.disk_runs.Stands.{Known, Stands}
use Rattle.log_calls.specs.Calls.{FlushesOn, StagesOn}
use Rattle.run_crashes.specs.Laws.{CommitsNone}
use Rattle.run_crashes.specs.Lines.{CallLeaves}
use Rattle.engine_calls.specs.Clauses.{Between, CallAnswers, CallStops, OnLog}

-- ## Events

-- the state behind these outcomes and the first events of the next call
abbrev pub behind_first : Opening → List Done → List Event → State
behind_first g xs es = run g (state_after g (front xs)) es

-- ## Parts

-- From old the call went on to now by these events, its first ones, and the disk stands for them, of which a is known; no line is out.
pub record Gone (g : Opening) (xs : List Done) (es : List Event) (s0 : Crash) (k : Known) (old : Story) (a : Known) (now : Story) : Type 0 where
  pub no_earlier : IsNoEarlier es k.master a.master
  pub stands : Stands g (front xs ++ es) s0 a now
  pub notes : now.notes ≡ old.notes
  pub any_moment : LeavesOnly old now (CallLeaves g xs es s0 k.master)

-- a part of it, from mid to new: no line comes out, and a crash leaves what one after the first of these events does
pub record Passes (g : Opening) (xs : List Done) (es more : List Event) (s0 : Crash) (a : Known) (mid new : Story) : Type 0 where
  pub told : LeavesOnly mid new (λ c. c.notes ≡ mid.notes)
  pub any_moment : LeavesOnly mid new (LeavesSome g (front xs ++ es) more s0 a.master)

-- a call on log w, which enters a record by an event
pub record Enters (g : Opening) (xs : List Done) (es : List Event) (e : Event) (a : Known) (w : ℕ) (r : Record) (log : Log) (mid new : Story) : Type 0 where
  pub low : 0 < w
  pub high : w ≤ g.workers
  pub event : is_cut e ≡ false
  pub records : Records w (entry_of w r) (state_after g (front xs ++ es)) (state_after g (front xs ++ (es ++ e ∷ [])))
  pub stages : StagesOn w r (a.log w) log mid new
  pub on : OnLog w (a.log w) mid new

-- one that flushes it up to n
pub record Settles (g : Opening) (xs : List Done) (es : List Event) (e : Event) (a : Known) (w n : ℕ) (log : Log) (mid new : Story) : Type 0 where
  pub low : 0 < w
  pub high : w ≤ g.workers
  pub event : is_cut e ≡ false
  pub flushes : Flushes w n (state_after g (front xs ++ es)) (state_after g (front xs ++ (es ++ e ∷ [])))
  pub within : n ≤ (a.log w).last
  pub call : FlushesOn w (a.log w) log mid new
  pub on : OnLog w (a.log w) mid new

-- ## How they are put together

-- Of a call that began at old, has come to mid by the events es, and goes on to new.
pub record PartLaws (l : Limits) (g : Opening) (group : ℕ) (xs : List Done) (s0 : Crash) (k : Known) (old mid new : Story) (es : List Event) (a : Known) : Type 0 where
  -- it begins
  pub none : IsLawful old → Gone g xs [] s0 k old k old
  -- events that the disk does not see
  pub quiet : (more : List Event) → all is_quiet more ≡ true → Gone g xs es s0 k old a mid → Gone g xs (es ++ more) s0 k old a mid
  -- a record is staged, or a log flushed
  pub stage : (e : Event) (w : ℕ) (r : Record) (log : Log) → Gone g xs es s0 k old a mid → Enters g xs es e a w r log mid new → (y : Account) × Gone g xs (es ++ e ∷ []) s0 k old (with_log a w log y) new
  pub flush : (e : Event) (w n : ℕ) (log : Log) → Gone g xs es s0 k old a mid → Settles g xs es e a w n log mid new → Gone g xs (es ++ e ∷ []) s0 k old (with_log a w log (flushed (a.account w))) new
  -- whatever else is done
  pub pass : (more : List Event) (b : Known) → Gone g xs es s0 k old a mid → Passes g xs es more s0 a mid new → IsNoEarlier more a.master b.master → Stands g (front xs ++ (es ++ more)) s0 b new → new.notes ≡ mid.notes
      → Gone g xs (es ++ more) s0 k old b new
  -- a call on a log that failed passes no event
  pub failed : (w : ℕ) → 0 < w → w ≤ g.workers → Gone g xs es s0 k old a mid → OnLog w (a.log w) mid new → Passes g xs es [] s0 a mid new
  -- it is answered by these events
  pub answers : (x : Done) → es ≡ x.events → Gone g xs es s0 k old a mid → Tells l g group xs x → CallAnswers l g group xs x s0 k old mid
  -- it stops: what it did commits nothing, or is the first part of a call that would be answered so
  pub stops : (more : List Event) → Gone g xs es s0 k old a mid → Passes g xs es more s0 a mid new → CommitsNone g xs (es ++ more) → CallStops l g group xs s0 k old new
  pub stops_in : (more rest : List Event) (x : Done) → (es ++ more) ++ rest ≡ x.events → Gone g xs es s0 k old a mid → Passes g xs es more s0 a mid new → Tells l g group xs x → CallStops l g group xs s0 k old new

-- in each run
abbrev pub EveryPart : (old mid new : Story) → Type 0
EveryPart old mid new = (l : Limits) (g : Opening) (group : ℕ) (xs : List Done) (s0 : Crash) (k : Known) (es : List Event) (a : Known) → Between l g group xs s0 k old → PartLaws l g group xs s0 k old mid new es a
