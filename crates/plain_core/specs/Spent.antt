-- When an event finds no further number.
use Rattle.core_state.specs.States.{State}
use Rattle.core_state.specs.Openings.{Opening}
use Rattle.core_state.specs.Events.{Event}
use Rattle.core_state.specs.Needs.{may}
use Rattle.core_state.specs.Steps.{at_pages, step}
use Rattle.plain_core.specs.declared.refusal.Refusal.{Refusal}
use Rattle.plain_core.specs.declared.refusal.Refusal.TheVariants as refusals
use Rattle.std.specs.Prelude.{◌≡◌, ◌^◌, ◌⊎◌, ℕ, suc, true, List, [], ◌∷◌}

-- the number that the event raises by one: its worker's clock after it touched the pages, its transaction's number, or
-- the epoch; 0 where it raises none
abbrev pub raised_by : State → Event → ℕ
raised_by s (Event.Begin w f) = (s.worker w).txn
raised_by s (Event.Change w p k v) = (at_pages s w (s.worker w) (p ∷ [])).clock
raised_by s (Event.Put_back w p) = (at_pages s w (s.worker w) (p ∷ [])).clock
raised_by s (Event.Split w l r q i) = (at_pages s w (s.worker w) (l ∷ r ∷ q ∷ [])).clock
raised_by s (Event.Lift w c) = (at_pages s w (s.worker w) (0 ∷ c ∷ [])).clock
raised_by s (Event.Join w l r q) = (at_pages s w (s.worker w) (l ∷ r ∷ q ∷ [])).clock
raised_by s (Event.Drop w c) = (at_pages s w (s.worker w) (0 ∷ c ∷ [])).clock
raised_by s (Event.Purge w p keys) = (at_pages s w (s.worker w) (p ∷ [])).clock
raised_by s (Event.End w commit f) = (s.worker w).clock
raised_by s Event.Tick = s.epoch
raised_by s _ = 0

-- the event's need is met, and the number that it takes does not fit 64 bits
pub record IsSpent (g : Opening) (s : State) (e : Event) : Type 0 where
  pub met : may g s e ≡ true
  pub last : suc (raised_by s e) ≡ 2 ^ 64

-- one of the events finds it so in its turn
abbrev pub IsSpentIn : Opening → State → List Event → Type 0
IsSpentIn g s [] = ⊥
IsSpentIn g s (e ∷ es) = IsSpent g s e ⊎ IsSpentIn g (step g s e) es

-- it says that a number is wanting only where that is so
abbrev pub IfNumber : Refusal → Type 0 → Type 0
IfNumber refusals.Memory P = Unit {0}
IfNumber refusals.Number P = P
