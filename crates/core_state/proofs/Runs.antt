-- A run of events and of more events.
use Rattle.std.proofs.Common.{◌≡◌, List, [], ◌∷◌, ◌++◌, refl}
use Rattle.core_state.specs.States.{State}
use Rattle.core_state.specs.Openings.{Opening}
use Rattle.core_state.specs.Events.{Event}
use Rattle.core_state.specs.Steps.{run, step, AllMet}

-- more events go on from where the first ones led
pub run_more : (g : Opening) (s : State) (es more : List Event) → run g s (es ++ more) ≡ run g (run g s es) more
run_more g s [] more = refl
run_more g s (e ∷ es) more = run_more g (step g s e) es more

-- their needs are met there
pub met_more : (g : Opening) (s : State) (es more : List Event) → AllMet g s (es ++ more) → AllMet g (run g s es) more
met_more g s [] more m = m
met_more g s (e ∷ es) more m = met_more g (step g s e) es more m.1
