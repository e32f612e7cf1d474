use Rattle.std.proofs.Common.{◌≡◌, take, length}
use Rattle.recovery_scan.specs.Records.{entries_of}
use Rattle.recovery_redo.specs.Inside.{AreEnded}
use Rattle.recovery_redo.proofs.outcome.ended.Given as goal

abbrev pub invariant-loop-i : goal.invariant-loop-i
invariant-loop-i l = AreEnded l.logs l.far (entries_of (take l.i l.index)) l.ended.items × (length l.ended.items ≡ l.logs)
