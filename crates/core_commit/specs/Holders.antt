-- Who holds the lock rows.
use Rattle.core_state.specs.States.{State, start}
use Rattle.core_state.specs.Openings.{Opening}
use Rattle.core_state.specs.Events.{Event}
use Rattle.core_state.specs.Needs.{is_worker, is_held_by, is_reader}
use Rattle.core_state.specs.Steps.{run}
use Rattle.std.specs.Prelude.{◌≡◌, ◌≤◌, ℕ, true, List, []}

-- whoever holds a row, alone or with others, is one of the workers
pub record HeldByWorkers (g : Opening) (s : State) : Type 0 where
  pub holder : (j w : ℕ) → is_held_by (s.row j).holder w ≡ true → is_worker g w ≡ true
  pub reader : (j w : ℕ) → is_reader w (s.row j).readers ≡ true → is_worker g w ≡ true
  -- a row that is held alone has no readers
  pub apart : (j w : ℕ) → is_held_by (s.row j).holder w ≡ true → (s.row j).readers ≡ []
  -- the last who held it alone was one, if there was any
  pub log : (j : ℕ) → (s.row j).log ≤ g.workers

-- so after every list of events
abbrev pub EveryHolder : Type 0
EveryHolder = (g : Opening) (es : List Event) → HeldByWorkers g (run g (start g) es)
