-- Misses change nothing of the core.
use Rattle.std.proofs.Common.{◌≡◌, ◌∙◌, List, [], ◌∷◌, refl}
use Rattle.session_state.specs.row_words.declared.event.Event.{Event}
use Rattle.session_state.specs.row_words.declared.event.Event.TheVariants.{Miss}
use Rattle.session_state.specs.row_words.declared.given.Given.{Given}
use Rattle.session_state.specs.row_words.Moments.{Moment}
use Rattle.session_state.specs.row_words.Sealed as sealed
use Rattle.held_rows.specs.Steps.{AreMisses}
use Rattle.session_state.proofs.Moments.{met_core}

pub misses_core : (v : Given) (k : Moment) (es : List Event) → AreMisses es → (sealed.run v k es).core ≡ k.core
misses_core v k [] m = refl
misses_core v k (Miss a ∷ es) m = misses_core v (sealed.stepped v k (Miss a)) es m ∙ met_core v k (Miss a) refl
misses_core v k _ m = absurd m
