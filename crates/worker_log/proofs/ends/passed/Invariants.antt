use Rattle.std.proofs.Common.{◌≡◌, ◌+◌, ℕ, drop}
use Rattle.worker_log.specs.Logs.{passed_by}
use Rattle.worker_log.proofs.ends.passed.Given as goal

abbrev pub invariant-loop-at : goal.invariant-loop-at
invariant-loop-at l = passed_by l.fn.number l.fn.ends.items ≡ l.at + passed_by l.fn.number (drop l.at l.fn.ends.items)
