use Rattle.node_tree.proofs.MarkLemmas.{IsMarking}
use Rattle.node_tree.proofs.marks.mark_children.Given as goal

abbrev pub invariant-loop-i : goal.invariant-loop-i
invariant-loop-i l = IsMarking l.node.node.pairs l.node.node.high l.i l.initial.row l.row
