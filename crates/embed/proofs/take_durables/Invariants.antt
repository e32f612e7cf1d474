use Rattle.std.proofs.Common.{◌≡◌, true}
use Rattle.host_disk.specs.buffered_engine.group_commit.Queues.{queued}
use Rattle.embed.proofs.take_durables.Given as goal

abbrev pub invariant-loop-durable : goal.invariant-loop-durable
invariant-loop-durable l = (l.engine.works ≡ true) × (l.engine.sessions ≡ l.initial.engine.sessions) × (l.engine.next ≡ l.initial.engine.next)

abbrev pub decreases-loop-durable : goal.decreases-loop-durable
decreases-loop-durable l = queued l.engine.ends
