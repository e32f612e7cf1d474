use Rattle.node_tree.specs.Nodes.{nodes_of}
use Rattle.node_tree.specs.Inside.{IsOnWay}
use Rattle.node_tree.proofs.descent.leaf_of.Given as goal

abbrev pub invariant-loop-page : goal.invariant-loop-page
invariant-loop-page l = IsOnWay l.pages l.key l.page

abbrev pub decreases-loop-page : goal.decreases-loop-page
decreases-loop-page l = (nodes_of l.pages l.page).level
