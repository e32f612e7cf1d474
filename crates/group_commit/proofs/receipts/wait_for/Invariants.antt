use Rattle.std.proofs.Common.{◌≡◌, ◌+◌, drop}
use Rattle.group_commit.specs.Ripeness.{waits_from}
use Rattle.group_commit.proofs.receipts.wait_for.Given as goal

abbrev pub invariant-loop-i : goal.invariant-loop-i
invariant-loop-i l = waits_from (l.i + 1) l.need (drop l.i l.flushed) ≡ waits_from 1 l.need l.flushed
