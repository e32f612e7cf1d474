use Rattle.std.proofs.Common.{◌≡◌, ℕ, drop}
use Rattle.circular_buffer.specs.Buffer.{buffer}
use Rattle.worker_log.proofs.ends.drop_ends.Given as goal

abbrev pub invariant-loop-passed : goal.invariant-loop-passed
invariant-loop-passed l = l.ends ≡ buffer (drop l._passed l.initial.ends.items) l.initial.ends.capacity
