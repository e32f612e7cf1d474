use Rattle.std.proofs.Common.{take}
use Rattle.recovery_scan.specs.Records.{entries_of}
use Rattle.recovery_redo.specs.Inside.{AreGreatest}
use Rattle.recovery_redo.proofs.outcome.find_greatest.Given as goal

abbrev pub invariant-loop-i : goal.invariant-loop-i
invariant-loop-i l = AreGreatest (entries_of (take l.i l.index)) l.greatest
