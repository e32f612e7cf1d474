-- A sync and a checkpoint.
use Rattle.std.specs.Prelude.{◌≡◌, ℕ, false, List, [], ◌∷◌, ◌++◌}
use Rattle.map_model.specs.Lists.{any, keep}
use Rattle.run_crashes.specs.core_state.Openings.{Opening}
use Rattle.run_crashes.specs.core_state.Events.{Event}
use Rattle.run_crashes.specs.core_state.Steps.{AllMet, state_after}
use Rattle.lean_disk.specs.Story.{Crash, Story}
use Rattle.run_crashes.specs.core_calls.Deeds.{Checkpointed, Deed, Synced}
use Rattle.run_crashes.specs.core_calls.Fronts.{Done, front, outcomes}
use Rattle.run_crashes.specs.core_calls.LogEvents.{IsSync, IsSyncAndCut, is_log}
use Rattle.run_crashes.specs.core_calls.Refusals.{Limits}
use Rattle.run_crashes.specs.core_calls.Steps.{is_step, is_structure}
use Rattle.run_crashes.specs.disk_runs.Stands.{Known}
use Rattle.engine_calls.specs.Clauses.{Between, CallAnswers, IsNewLine}
use Rattle.engine_calls.specs.Parts.{Gone}

-- of no session, by these events
abbrev pub kept_by : Deed → List Event → Done
kept_by d es = record { outcome = record { session = 0; deed = d; unsaid = [] }; events = es }

-- What the body shows: it is asked on a new line, the need of each event is met, and none is a step or changes the tree.
pub record IsKeeping (g : Opening) (xs : List Done) (es : List Event) : Type 0 where
  pub line : IsNewLine (outcomes xs)
  pub met : AllMet g (state_after g (front xs)) es
  pub steps : any is_step es ≡ false
  pub structure : any is_structure es ≡ false

-- Where the disk stands for the events: the last is the sync, or the cut behind it, and at the logs there is nothing else but the flushes for it.
pub record SyncLaws (l : Limits) (g : Opening) (group : ℕ) (xs : List Done) (s0 : Crash) (k a : Known) (before : List Event) (old new : Story) : Type 0 where
  pub sync : (at : ℕ) → let es = before ++ Event.Sync at ∷ [] in Gone g xs es s0 k old a new → IsKeeping g xs es → IsSync at (keep is_log es)
      → CallAnswers l g group xs (kept_by (Synced at) es) s0 k old new
  pub checkpoint : (at : ℕ) (heads : ℕ → ℕ) → let es = before ++ Event.Cut at heads ∷ [] in Gone g xs es s0 k old a new → IsKeeping g xs es → IsSyncAndCut at (keep is_log es)
      → CallAnswers l g group xs (kept_by (Checkpointed at) es) s0 k old new

-- in each run
abbrev pub EverySync : (old new : Story) → Type 0
EverySync old new = (l : Limits) (g : Opening) (group : ℕ) (xs : List Done) (s0 : Crash) (k a : Known) (before : List Event) → Between l g group xs s0 k old → SyncLaws l g group xs s0 k a before old new
