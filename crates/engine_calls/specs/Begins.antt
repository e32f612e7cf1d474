-- A begin.
use Rattle.std.specs.Prelude.{◌≡◌, ℕ, suc, Bool, false, List, [], ◌∷◌, ◌++◌}
use Rattle.map_model.specs.Lists.{any, keep}
use Rattle.run_crashes.specs.core_state.Openings.{Opening}
use Rattle.run_crashes.specs.core_state.States.{flushed_by_all}
use Rattle.run_crashes.specs.core_state.Events.{Event}
use Rattle.run_crashes.specs.core_state.Steps.{AllMet, state_after}
use Rattle.lean_disk.specs.Story.{Crash, Story}
use Rattle.run_crashes.specs.core_calls.Deeds.{Begun}
use Rattle.run_crashes.specs.core_calls.Fronts.{Done, front, outcomes}
use Rattle.run_crashes.specs.core_calls.LogEvents.{Prepares, is_log}
use Rattle.run_crashes.specs.core_calls.Refusals.{Limits}
use Rattle.run_crashes.specs.core_calls.Steps.{is_step, is_structure}
use Rattle.run_crashes.specs.disk_runs.Stands.{Known}
use Rattle.engine_calls.specs.Clauses.{Between, CallAnswers, IsNewLine}
use Rattle.engine_calls.specs.Parts.{Gone, behind_first}

-- behind these events session w begins its transaction of this number, and finds all logs flushed up to f
abbrev pub begun_by : List Event → (w number f : ℕ) → Done
begun_by before w number f = record { outcome = record { session = w; deed = Begun number; unsaid = [] }; events = before ++ Event.Begin w f ∷ [] }

-- What the body shows: it is asked on a new line; no step and no change of the tree stands before the begin, and what was due at the logs was done there, which is nothing
-- where no log is half full and few ends of the session wait; the need of each event is met, all logs are flushed up to f, and the number is the
-- next.
pub record IsBegin (l : Limits) (g : Opening) (xs : List Done) (before : List Event) (w number f : ℕ) : Type 0 where
  pub line : IsNewLine (outcomes xs)
  pub steps : any is_step before ≡ false
  pub structure : any is_structure before ≡ false
  pub half : Bool
  pub prepares : Prepares half l g xs w (keep is_log before)
  pub met : AllMet g (state_after g (front xs)) (begun_by before w number f).events
  pub flushed : f ≡ flushed_by_all g (behind_first g xs before)
  pub next : number ≡ suc ((behind_first g xs before).worker w).txn

-- Where the disk stands for the events before it, all clauses hold: the begin itself touches no device.
abbrev pub EveryBegin : (old new : Story) → Type 0
EveryBegin old new = (l : Limits) (g : Opening) (group : ℕ) (xs : List Done) (s0 : Crash) (k a : Known) (before : List Event) (w number f : ℕ) → Between l g group xs s0 k old
    → Gone g xs before s0 k old a new → IsBegin l g xs before w number f → CallAnswers l g group xs (begun_by before w number f) s0 k old new
