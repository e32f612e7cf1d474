-- What the events of sessions need and make, over any state of the core.
use Rattle.std.proofs.Common.{◌≡◌, ℕ, true, false, [], ◌∷◌, Option, refl}
use Rattle.std.proofs.lemmas.Bool.{eq-eqb, and_left, and_right}
use Rattle.map_model.specs.Lists.{upd}
use Rattle.btree_descent.specs.core_state.Openings.{Opening}
use Rattle.btree_descent.specs.core_state.States.{State}
use Rattle.btree_descent.specs.core_state.Events.{Event}
use Rattle.btree_descent.specs.core_state.Needs.{may, are_hot, may_read, is_value, value_in}
use Rattle.btree_descent.specs.core_state.Steps.{step, happens}

-- an event whose need is met happens, and another changes nothing
pub steps_met : (g : Opening) (s : State) (e : Event) → may g s e ≡ true → step g s e ≡ happens g s e
steps_met g s e h = rw h refl

pub steps_unmet : (g : Opening) (s : State) (e : Event) → may g s e ≡ false → step g s e ≡ s
steps_unmet g s e h = rw h refl

-- one that is not open reads nothing
pub read_unmet : (g : Opening) (s : State) (w p k : ℕ) (a : Option ℕ) → (s.worker w).is_open ≡ false → may g s (Event.Read w p k a) ≡ false
read_unmet g s w p k a h = and_right (are_hot s (p ∷ [])) _ (and_left (may_read g s w p k) (is_value a (value_in g.format (s.page p).node k)) (and_left (s.worker w).is_open _ h))

-- an update at w
pub upd_here : {A : Type 0} (f : ℕ → A) (w : ℕ) (a : A) → upd f w a w ≡ a
upd_here f w a = rw (eq-eqb w w refl) refl
