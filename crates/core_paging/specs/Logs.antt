-- The log that a page names as its last one.
use Rattle.core_commit.specs.core_state.States.{State, start}
use Rattle.core_commit.specs.core_state.Openings.{Opening}
use Rattle.core_commit.specs.core_state.Events.{Event}
use Rattle.core_commit.specs.core_state.Steps.{run}
use Rattle.std.specs.Prelude.{◌≤◌, ℕ, List}

-- each page's last log, and that of its saved contents, is at most this
pub record LogsWithin (most : ℕ) (s : State) : Type 0 where
  pub page : (p : ℕ) → (s.page p).last ≤ most
  pub saved : (p : ℕ) → (s.saved p).last ≤ most

-- so after every list of events, where it is so of what opening gives and of the number of workers
abbrev pub EveryLastLog : Type 0
EveryLastLog = (g : Opening) (most : ℕ) → g.workers ≤ most → ((p : ℕ) → g.last p ≤ most) → (es : List Event) → LogsWithin most (run g (start g) es)
