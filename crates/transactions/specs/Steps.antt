-- Words on lists of events.
use Rattle.std.specs.Prelude.{◌≡◌, ℕ, Bool, true, false, ◌==◌, List, [], ◌∷◌, if◌then◌else◌}
use Rattle.core_state.specs.Events.{Event}

-- It is a step of w's transaction. The other events are of pages and of structure, of logs, of epochs, or misses.
abbrev pub is_step_of : ℕ → Event → Bool
is_step_of w (Event.Begin v f) = v == w
is_step_of w (Event.Lock v i mode) = v == w
is_step_of w (Event.Read v p k a) = v == w
is_step_of w (Event.Next v p k a) = v == w
is_step_of w (Event.Change v p k x) = v == w
is_step_of w (Event.Put_back v p) = v == w
is_step_of w (Event.End v commit f) = v == w
is_step_of w (Event.Unlock v i) = v == w
is_step_of w _ = false

-- a step of some session's transaction
abbrev pub is_step : Event → Bool
is_step (Event.Begin v f) = true
is_step (Event.Lock v i mode) = true
is_step (Event.Read v p k a) = true
is_step (Event.Next v p k a) = true
is_step (Event.Change v p k x) = true
is_step (Event.Put_back v p) = true
is_step (Event.End v commit f) = true
is_step (Event.Unlock v i) = true
is_step _ = false

-- all steps of transactions are w's
abbrev pub AreOnly : ℕ → List Event → Type 0
AreOnly w [] = Unit {0}
AreOnly w (e ∷ es) = (is_step e ≡ true → is_step_of w e ≡ true) × AreOnly w es

-- no step of w's transaction
abbrev pub AreQuiet : ℕ → List Event → Type 0
AreQuiet w [] = Unit {0}
AreQuiet w (e ∷ es) = (is_step_of w e ≡ false) × AreQuiet w es

-- w's steps
abbrev pub steps_of : ℕ → List Event → List Event
steps_of w [] = []
steps_of w (e ∷ es) = if is_step_of w e then e ∷ steps_of w es else steps_of w es

-- a change was put back since the transaction began
abbrev pub is_half_after : ℕ → Bool → List Event → Bool
is_half_after w half [] = half
is_half_after w half (Event.Begin v f ∷ es) = is_half_after w (if v == w then false else half) es
is_half_after w half (Event.Put_back v p ∷ es) = is_half_after w (if v == w then true else half) es
is_half_after w half (Event.End v commit f ∷ es) = is_half_after w (if v == w then false else half) es
is_half_after w half (_ ∷ es) = is_half_after w half es
