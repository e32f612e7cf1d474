use Rattle.std.proofs.Common.{ℕ, ◌<◌, ◌+◌}
use Rattle.log_block.specs.Run.{StandsAt}
use Rattle.log_block.proofs.run.valid_run.Given as goal

abbrev pub invariant-loop-count : goal.invariant-loop-count
invariant-loop-count l = (k : ℕ) → k < l.count → StandsAt l.generation l.log (l.head + k) l.blocks l.area
