use Rattle.std.proofs.Common.{◌≡◌, length}
use Rattle.group_commit.specs.Queues.{settled}
use Rattle.group_commit.proofs.queue.Queue.settle.Given as goal

abbrev pub invariant-loop-self : goal.invariant-loop-self
invariant-loop-self l = settled l.flushed l.all l.self ≡ settled l.flushed l.all l.initial.self

abbrev pub decreases-loop-self : goal.decreases-loop-self
decreases-loop-self l = length l.self
