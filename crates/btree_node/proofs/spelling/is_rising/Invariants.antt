use Rattle.std.proofs.Common.{length, ◌-◌, ◌≡◌, drop}
use Rattle.btree_node.specs.Inside.{rises}
use Rattle.btree_node.proofs.spelling.is_rising.Given as goal

abbrev pub invariant-loop-i : goal.invariant-loop-i
invariant-loop-i l = rises l.next l.high (drop l.i l.words) ≡ rises l.low l.high l.words

abbrev pub decreases-loop-i : goal.decreases-loop-i
decreases-loop-i l = length l.words - l.i
