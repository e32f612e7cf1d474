use Rattle.btree_node.proofs.PurgeLemmas.{Closed}
use Rattle.btree_node.proofs.change.close_gaps.Given as goal

abbrev pub invariant-loop-i : goal.invariant-loop-i
invariant-loop-i l = Closed l.keys l.fn.words l.words l.i l.kept
