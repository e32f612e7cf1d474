-- An abort that is refused: it has put changes back, or none, and then a latch that it needs has reached its end. The next abort goes on.
use Rattle.std.specs.Prelude.{◌≡◌, ◌≤◌, ℕ, false, List, [], ◌++◌, length}
use Rattle.map_model.specs.declared.call.Call.{Call}
use Rattle.map_model.specs.declared.call.Call.TheVariants.{Abort}
use Rattle.map_model.specs.declared.call.Refusal.TheVariants.{RowSpent}
use Rattle.map_model.specs.Lists.{any, keep}
use Rattle.run_crashes.specs.core_state.Openings.{Opening}
use Rattle.run_crashes.specs.core_state.Events.{Event}
use Rattle.run_crashes.specs.core_state.Steps.{AllMet, state_after}
use Rattle.lean_disk.specs.Story.{Crash, Story}
use Rattle.run_crashes.specs.core_calls.Deeds.{Refused}
use Rattle.run_crashes.specs.core_calls.Fronts.{Done, front, outcomes}
use Rattle.run_crashes.specs.core_calls.LogEvents.{RefusedLogs}
use Rattle.run_crashes.specs.core_calls.Refusals.{Limits}
use Rattle.run_crashes.specs.core_calls.Steps.{PutsBack, call_behind, is_step, is_structure}
use Rattle.run_crashes.specs.disk_runs.Stands.{Known}
use Rattle.engine_calls.specs.Aborts.{backs_by}
use Rattle.engine_calls.specs.Clauses.{Between, CallAnswers, MayCome}
use Rattle.engine_calls.specs.Parts.{Gone}

-- behind these events, which put changes back, an abort of session w was refused
abbrev pub halved_by : Opening → List Done → ℕ → Call → List Event → Done
halved_by g xs w c es = record { outcome = record { session = w; deed = Refused c RowSpent (backs_by g (state_after g (front xs)) es []); unsaid = [] }; events = es }

-- What the body shows: it may come next, and is an abort, asked or due behind a conflict; the need of each event is met; its steps put changes back alone; the tree
-- stays as it is; so many events stand behind that a latch may be spent; and what was due at the logs was done.
pub record IsHalved (l : Limits) (g : Opening) (xs : List Done) (w : ℕ) (c : Call) (es : List Event) : Type 0 where
  pub comes : MayCome xs (halved_by g xs w c es).outcome
  pub asks : call_behind (outcomes xs) c ≡ Abort
  pub met : AllMet g (state_after g (front xs)) es
  pub backs : PutsBack w (keep is_step es)
  pub structure : any is_structure es ≡ false
  pub cause : l.latch_end ≤ length (front xs ++ es)
  pub due : RefusedLogs l g xs w c RowSpent es

-- Where the disk stands for the events, all clauses hold.
abbrev pub EveryHalved : (old new : Story) → Type 0
EveryHalved old new = (l : Limits) (g : Opening) (group : ℕ) (xs : List Done) (s0 : Crash) (k a : Known) (w : ℕ) (c : Call) (es : List Event) → Between l g group xs s0 k old
    → Gone g xs es s0 k old a new → IsHalved l g xs w c es → CallAnswers l g group xs (halved_by g xs w c es) s0 k old new
