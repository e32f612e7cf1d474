use Rattle.std.proofs.Common.{◌≡◌, ◌≤◌, ℕ, ◌-◌, max}
use Rattle.rfa_model.specs.Reaches.{least}
use Rattle.image_model.specs.Ends as ends
use Rattle.plain_images.specs.Records.{entries_of}
use Rattle.plain_images.proofs.ends.reach.Given as goal

-- the least over the logs so far
pub record IsLeast (floor logs : ℕ) (greatest : ℕ → ℕ) (log so_far : ℕ) : Type 0 where
  pub within : log ≤ logs
  pub least : so_far ≡ least (λ w. max floor (greatest w)) log

abbrev pub invariant-loop-log : goal.invariant-loop-log
invariant-loop-log l = IsLeast l.floor l.logs (λ w. ends.greatest w (entries_of l.records)) l.log l.least

abbrev pub decreases-loop-log : goal.decreases-loop-log
decreases-loop-log l = l.logs - l.log
