use Rattle.std.proofs.Common.{take, ◌≤◌}
use Rattle.recovery_scan.specs.Records.{entries_of}
use Rattle.recovery_redo.proofs.OutcomeLemmas.{AreSeen}
use Rattle.recovery_redo.proofs.outcome.losers.Given as goal

abbrev pub invariant-loop-i : goal.invariant-loop-i
invariant-loop-i l = AreSeen l.ended (entries_of (take l.i l.index)) l.seen.items l.losers × (l.losers ≤ l.i)
