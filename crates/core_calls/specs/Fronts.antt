-- Outcomes one after another, each with its events, and the state that they leave.
use Rattle.std.specs.Prelude.{◌≡◌, List, [], ◌∷◌, ◌++◌}
use Rattle.core_crash.specs.core_state.Openings.{Opening}
use Rattle.core_crash.specs.core_state.States.{State, flushed_by_all}
use Rattle.core_crash.specs.core_state.Events.{Event}
use Rattle.core_crash.specs.core_state.Steps.{step}
use Rattle.core_calls.specs.Deeds.{Outcome}

-- An outcome, with the events since the one before.
pub record Done : Type 0 where
  pub outcome : Outcome
  pub events : List Event

-- their events; of outcomes the newest is the first, of events the oldest
abbrev pub front : List Done → List Event
front [] = []
front (x ∷ earlier) = front earlier ++ x.events

-- they without their events
abbrev pub outcomes : List Done → List Outcome
outcomes [] = []
outcomes (x ∷ earlier) = x.outcome ∷ outcomes earlier

-- A begin and an end find the logs flushed as they are.
abbrev pub IsFresh : Opening → State → Event → Type 0
IsFresh g s (Event.Begin w f) = f ≡ flushed_by_all g s
IsFresh g s (Event.End w commit f) = f ≡ flushed_by_all g s
IsFresh g s _ = Unit {0}

-- each of them
abbrev pub AreFresh : Opening → State → List Event → Type 0
AreFresh g s [] = Unit {0}
AreFresh g s (e ∷ es) = IsFresh g s e × AreFresh g (step g s e) es
