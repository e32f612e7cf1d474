-- A call that is refused.
use Rattle.std.specs.Prelude.{◌≡◌, ℕ, false, List, [], ◌∷◌, ◌++◌}
use Rattle.map_model.specs.declared.call.Call.{Call}
use Rattle.map_model.specs.declared.call.Refusal.{Refusal}
use Rattle.map_model.specs.Lists.{any, keep}
use Rattle.run_crashes.specs.core_state.Openings.{Opening}
use Rattle.run_crashes.specs.core_state.Events.{Event}
use Rattle.run_crashes.specs.core_state.Steps.{AllMet, state_after}
use Rattle.lean_disk.specs.Story.{Crash, Story}
use Rattle.run_crashes.specs.core_calls.Deeds.{Refused, marks_by}
use Rattle.run_crashes.specs.core_calls.Fronts.{Done, front, outcomes}
use Rattle.run_crashes.specs.core_calls.LogEvents.{RefusedLogs}
use Rattle.run_crashes.specs.core_calls.Marks.{is_half}
use Rattle.run_crashes.specs.core_calls.Refusals.{Limits, IsCause}
use Rattle.run_crashes.specs.core_calls.Scans.{StopsOnWay}
use Rattle.run_crashes.specs.core_calls.Steps.{Tries, call_behind, is_change, is_step, is_structure}
use Rattle.run_crashes.specs.disk_runs.Stands.{Known}
use Rattle.engine_calls.specs.Clauses.{Between, CallAnswers, MayCome}
use Rattle.engine_calls.specs.Parts.{Gone, behind_first}

-- a call of session w that was refused, behind these events
abbrev pub refused_by : ℕ → Call → Refusal → List Event → Done
refused_by w c why es = record { outcome = record { session = w; deed = Refused c why []; unsaid = [] }; events = es }

-- session w takes rows, and does nothing else
abbrev pub TakesRows : ℕ → List Event → Type 0
TakesRows w [] = Unit {0}
TakesRows w (Event.Lock v i mode ∷ es) = (v ≡ w) × TakesRows w es
TakesRows w _ = ⊥

-- What the body shows: it may come next; the need of each event is met; its steps took rows alone, and those that a call refused so has taken; a scan, those of the entries that it met; it changed the tree only if it asks for a change
-- and had its row; the state has the cause; and what was due at the logs was done.
pub record IsRefusal (l : Limits) (g : Opening) (xs : List Done) (w : ℕ) (c : Call) (why : Refusal) (es : List Event) : Type 0 where
  pub comes : MayCome xs (refused_by w c why es).outcome
  pub met : AllMet g (state_after g (front xs)) es
  pub rows : TakesRows w (keep is_step es)
  pub tries : Tries g w (outcomes xs) (call_behind (outcomes xs) c) why (keep is_step es)
  pub scans : StopsOnWay g w (outcomes xs) (state_after g (front xs)) (call_behind (outcomes xs) c) why es
  pub structure : is_change (Refused c why []) ≡ false → any is_structure es ≡ false
  pub cause : IsCause l g (front xs ++ es) (behind_first g xs es) (is_half (marks_by w (outcomes xs))) w c why
  pub due : RefusedLogs l g xs w c why es

-- Where the disk stands for the events, all clauses hold.
abbrev pub EveryRefusal : (old new : Story) → Type 0
EveryRefusal old new = (l : Limits) (g : Opening) (group : ℕ) (xs : List Done) (s0 : Crash) (k a : Known) (w : ℕ) (c : Call) (why : Refusal) (es : List Event) → Between l g group xs s0 k old
    → Gone g xs es s0 k old a new → IsRefusal l g xs w c why es → CallAnswers l g group xs (refused_by w c why es) s0 k old new
