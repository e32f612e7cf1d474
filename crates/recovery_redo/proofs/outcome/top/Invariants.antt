use Rattle.std.proofs.Common.{take}
use Rattle.recovery_scan.specs.Records.{entries_of}
use Rattle.recovery_redo.specs.Inside.{IsTop}
use Rattle.recovery_redo.proofs.outcome.top.Given as goal

abbrev pub invariant-loop-i : goal.invariant-loop-i
invariant-loop-i l = IsTop l.floor (entries_of (take l.i l.index)) l.top
