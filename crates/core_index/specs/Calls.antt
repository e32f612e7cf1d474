-- One event's call, from any state that has the invariants, whatever led to it.
use Rattle.map_model.specs.Histories.{last_write, over, IsLegal}
use Rattle.core_commit.specs.core_state.States.{State}
use Rattle.core_commit.specs.core_state.Openings.{Opening}
use Rattle.core_commit.specs.core_state.Events.{Event}
use Rattle.core_commit.specs.core_state.Needs.{may}
use Rattle.core_commit.specs.core_state.Steps.{happens}
use Rattle.core_commit.specs.Invariants.{Good}
use Rattle.core_index.specs.Answers.{told, map_in}
use Rattle.std.specs.Prelude.{◌≡◌, ℕ, true, []}

-- A read, a walk, a peek, a change and a put-back are answered by the map that the pages hold, and leave it with what they
-- write; every other event leaves it as it is.
pub record IsAnswered (g : Opening) (s : State) (e : Event) : Type 0 where
  pub legal : IsLegal (map_in g s) (told g s e [])
  pub map : (k : ℕ) → map_in g (happens g s e) k ≡ over (map_in g s) (last_write (told g s e [])) k

-- It is so of each event where the opening is faithful.
abbrev pub EveryCall : Type 0
EveryCall = (g : Opening) → g.faithful ≡ true → (s : State) → Good g s → (e : Event) → may g s e ≡ true → IsAnswered g s e
