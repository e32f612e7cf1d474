use Rattle.std.proofs.Common.{◌≡◌, ◌≤◌, ℕ, ◌-◌}
use Rattle.core_state.specs.Lists.{most}
use Rattle.plain_core.specs.States.{state_of}
use Rattle.plain_core.proofs.state.Core.greatest_clock.Given as goal

-- the greatest over the workers so far
pub record IsMost (clock : ℕ → ℕ) (workers worker so_far : ℕ) : Type 0 where
  pub within : worker ≤ workers
  pub most : so_far ≡ most clock worker

abbrev pub invariant-loop-worker : goal.invariant-loop-worker
invariant-loop-worker l = IsMost (λ w. ((state_of l.self).worker w).clock) l.workers l.worker l.greatest

abbrev pub decreases-loop-worker : goal.decreases-loop-worker
decreases-loop-worker l = l.workers - l.worker
