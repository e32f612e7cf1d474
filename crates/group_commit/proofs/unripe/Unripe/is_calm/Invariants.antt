use Rattle.std.proofs.Common.{◌≡◌, ◌<◌, ◌≤◌, ℕ, false}
use Rattle.group_commit.specs.Queues.{begins_ripe, queue_of}
use Rattle.group_commit.specs.Ripeness.{flushed_of}
use Rattle.group_commit.proofs.unripe.Unripe.is_calm.Given as goal

abbrev pub invariant-loop-i : goal.invariant-loop-i
invariant-loop-i l = (w : ℕ) → 0 < w → w ≤ l.i → begins_ripe (flushed_of l.flushed w) l.all (queue_of l.self w) ≡ false
