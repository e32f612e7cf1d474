use Rattle.group_commit.specs.Queues.{next_of, IsSoonest}
use Rattle.group_commit.proofs.unripe.Unripe.soonest.Given as goal

abbrev pub invariant-loop-i : goal.invariant-loop-i
invariant-loop-i l = IsSoonest (next_of l.flushed l.all l.self) l.i l.found
