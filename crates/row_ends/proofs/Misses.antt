-- Misses change nothing.
use Rattle.std.proofs.Common.{◌≡◌, ◌∙◌, true, false, List, [], ◌∷◌, refl}
use Rattle.map_model.specs.Lists.{all, any}
use Rattle.session_state.specs.core_state.Openings.{Opening}
use Rattle.session_state.specs.core_state.States.{State}
use Rattle.session_state.specs.core_state.Steps.{AllMet}
use Rattle.session_state.specs.core_calls.LogEvents.{is_log}
use Rattle.session_state.specs.core_calls.Steps.{is_step, is_structure}
use Rattle.session_state.specs.disk_runs.Quiet.{is_quiet}
use Rattle.session_state.specs.row_words.declared.event.Event.{Event}
use Rattle.session_state.specs.row_words.declared.event.Event.TheVariants.{Miss}
use Rattle.session_state.specs.row_words.declared.given.Given.{Given}
use Rattle.session_state.specs.row_words.Moments.{Moment, events_of}
use Rattle.session_state.specs.row_words.Sealed as sealed
use Rattle.session_state.proofs.Moments.{met_core}
use Rattle.held_rows.specs.Steps.{AreMisses}

pub misses_core : (v : Given) (k : Moment) (es : List Event) → AreMisses es → (sealed.run v k es).core ≡ k.core
misses_core v k [] m = refl
misses_core v k (Miss a ∷ es) m = misses_core v (sealed.stepped v k (Miss a)) es m ∙ met_core v k (Miss a) refl
misses_core v k _ m = absurd m

pub misses_met : (g : Opening) (s : State) (es : List Event) → AreMisses es → AllMet g s (events_of es)
misses_met g s [] m = tt
misses_met g s (Miss a ∷ es) m = (refl, misses_met g s es m)
misses_met g s _ m = absurd m

pub misses_steps : (es : List Event) → AreMisses es → any is_step (events_of es) ≡ false
misses_steps [] m = refl
misses_steps (Miss a ∷ es) m = misses_steps es m
misses_steps _ m = absurd m

pub misses_structure : (es : List Event) → AreMisses es → any is_structure (events_of es) ≡ false
misses_structure [] m = refl
misses_structure (Miss a ∷ es) m = misses_structure es m
misses_structure _ m = absurd m

pub misses_log : (es : List Event) → AreMisses es → any is_log (events_of es) ≡ false
misses_log [] m = refl
misses_log (Miss a ∷ es) m = misses_log es m
misses_log _ m = absurd m

pub misses_quiet : (es : List Event) → AreMisses es → all is_quiet (events_of es) ≡ true
misses_quiet [] m = refl
misses_quiet (Miss a ∷ es) m = misses_quiet es m
misses_quiet _ m = absurd m
