use Rattle.std.proofs.Common.{◌≡◌, ◌≤◌, ℕ, ◌-◌}
use Rattle.rfa_model.specs.Reaches.{least}
use Rattle.plain_core.specs.Tables.{at}
use Rattle.plain_core.proofs.needs.least_of.Given as goal

-- the least over the logs so far
pub record IsLeast (flushed : ℕ → ℕ) (logs log so_far : ℕ) : Type 0 where
  pub within : log ≤ logs
  pub least : so_far ≡ least flushed log

abbrev pub invariant-loop-log : goal.invariant-loop-log
invariant-loop-log l = IsLeast (at l.flushed) l.logs l.log l.least

abbrev pub decreases-loop-log : goal.decreases-loop-log
decreases-loop-log l = l.logs - l.log
