use Rattle.node_tree.specs.Inside.{IsNamedBelow}
use Rattle.node_tree.proofs.marks.named_pages.Given as goal

abbrev pub invariant-loop-node : goal.invariant-loop-node
invariant-loop-node l = IsNamedBelow l.pages l.node-index l.row.items
