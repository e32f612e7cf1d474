-- What a state that has the invariants says of stamps and numbers, whatever led to it.
use Rattle.map_model.specs.Lists.{Has}
use Rattle.core_state.specs.image_model.Entries.{Entry, is_record}
use Rattle.core_state.specs.States.{State, flushed_by_all}
use Rattle.core_state.specs.Openings.{Opening}
use Rattle.core_state.specs.Events.{Event}
use Rattle.core_state.specs.Needs.{may}
use Rattle.core_state.specs.Steps.{step, run}
use Rattle.core_commit.specs.Debts.{Stamp, IsBy, touched, Debt}
use Rattle.core_commit.specs.Past.{Each}
use Rattle.core_commit.specs.Invariants.{Good}
use Rattle.std.specs.Prelude.{◌≡◌, ◌<◌, ◌≤◌, ℕ, max, true, List, [], ◌∷◌, ◌⊎◌}

-- at some moment of the run w touched the stamp
abbrev pub Met : Opening → State → List Event → ℕ → Stamp → Type 0
Met g s [] w x = ⊥
Met g s (e ∷ es) w x = ((may g s e ≡ true) × IsBy e w × Has x (touched s e)) ⊎ Met g (step g s e) es w x

-- it is of w's own log, or w's debt or all logs are as far
abbrev pub IsKnown : Opening → State → ℕ → Stamp → Type 0
IsKnown g s w x = (x.log ≡ w) ⊎ (x.number ≤ max (s.worker w).debt (flushed_by_all g s))

-- within each log numbers rise strictly; the newest entry stands first
abbrev pub AreRising : List Entry → Type 0
AreRising h = Each (λ r b. is_record r.kind ≡ true → (y : Entry) → Has y b → y.log ≡ r.log → y.number < r.number) h

pub record Known (g : Opening) (s : State) : Type 0 where
  -- what was written before a record of the worker's own on its page, and the ends of those who wrote in rows that it holds
  pub debts : (w : ℕ) → Debt g s w
  -- each stamp that it touches from then on, also where it ended, let rows go and began since
  pub stamps : (es : List Event) (w : ℕ) (x : Stamp) → Met g s es w x → IsKnown g (run g s es) w x
  pub numbers : AreRising s.entries

-- so it is with every state that has the invariants
abbrev pub EveryKnown : Type 0
EveryKnown = (g : Opening) (s : State) → Good g s → Known g s
