-- What a run prints: each answer, and behind the last one to a line the durable lines that are due.
use Rattle.std.specs.Prelude.{◌≡◌, List, [], ◌∷◌, ◌++◌, reverse, if◌then◌else◌}
use Rattle.map_model.specs.Lists.{Has}
use Rattle.map_model.specs.Journals.{Name}
use Rattle.map_model.specs.Pairings.{answers_in, is_last}
use Rattle.map_model.specs.Outputs.{Reply, answers_told, names}
use Rattle.core_crash.specs.core_state.Openings.{Opening}
use Rattle.core_crash.specs.core_state.Steps.{state_after}
use Rattle.core_calls.specs.Deeds.{answered, transcript}
use Rattle.core_calls.specs.Fronts.{Done, front, outcomes}
use Rattle.core_calls.specs.Durables.{due, durables, moments}

-- these are durable
abbrev pub durable_lines : List Name → List Reply
durable_lines [] = []
durable_lines (n ∷ ns) = Reply.Durable n.session n.number ∷ durable_lines ns

-- behind an outcome those that are due, if it is the last of its line
abbrev pub due_lines : Opening → List Done → Done → List Reply
due_lines g earlier x = if is_last (answered x.outcome.deed) then durable_lines (due g (state_after g (front (x ∷ earlier))) (durables g (moments earlier))) else []

-- all lines, the last first
abbrev pub printed : Opening → List Done → List Reply
printed g [] = []
printed g (x ∷ earlier) = due_lines g earlier x ++ Reply.Answered x.outcome.session (answered x.outcome.deed) ∷ printed g earlier

-- The first lines have the answers of the first outcomes, and report what was due behind these.
pub record FirstLines (g : Opening) (xs : List Done) (first : List Reply) : Type 0 where
  pub later : List Done
  pub heard : List Done
  pub are : later ++ heard ≡ xs
  pub answers : answers_told first ≡ answers_in (transcript (outcomes heard))
  pub reports : (n : Name) → Has n (names first) → Has n (durables g (moments heard))

-- All lines have all answers and report all that was due; and so do the first of them.
pub record PrintedLaws (g : Opening) (xs : List Done) : Type 0 where
  pub answers : answers_told (printed g xs) ≡ answers_in (transcript (outcomes xs))
  pub reports : names (printed g xs) ≡ reverse (durables g (moments xs))
  pub first : (newer first : List Reply) → newer ++ first ≡ printed g xs → FirstLines g xs first

-- of each run
abbrev pub EveryPrinted : Type 0
EveryPrinted = (g : Opening) (xs : List Done) → PrintedLaws g xs
