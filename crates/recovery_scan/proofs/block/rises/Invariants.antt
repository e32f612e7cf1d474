use Rattle.std.proofs.Common.{◌≤◌, ◌-◌, length}
use Rattle.recovery_scan.specs.Inside.{NoneIsLate}
use Rattle.recovery_scan.proofs.block.rises.Given as goal

abbrev pub decreases-loop-i : goal.decreases-loop-i
decreases-loop-i l = length l.index - l.i

abbrev pub invariant-loop-i : goal.invariant-loop-i
invariant-loop-i l = record {
  behind : l.from ≤ l.i;
  none : NoneIsLate l.start l.from l.i l.index;
}
