use Rattle.std.proofs.Common.{◌≡◌, ◌≤◌, ℕ, List, length, drop}
use Rattle.core_state.specs.States as states
use Rattle.core_state.specs.Steps.{at_pages}
use Rattle.plain_core.specs.States.{worker_of, state_of}
use Rattle.plain_core.proofs.state.Core.at_pages.Given as goal

-- the worker after it touched the pages from a place on
pub record IsAtPages (s : states.State) (own : ℕ) (pages : List ℕ) (left : ℕ) (so_far : states.Worker) : Type 0 where
  pub within : left ≤ length pages
  pub is : so_far ≡ at_pages s own (s.worker own) (drop left pages)

abbrev pub invariant-loop-left : goal.invariant-loop-left
invariant-loop-left l = IsAtPages (state_of l.self) l.own l.pages l.left (worker_of l.worker)

abbrev pub decreases-loop-left : goal.decreases-loop-left
decreases-loop-left l = l.left
