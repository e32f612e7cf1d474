use Rattle.std.proofs.Common.{◌≡◌, drop}
use Rattle.page_model.specs.Pairs.{Span, spans}
use Rattle.page_model.specs.Check.{all, is_child}
use Rattle.node_tree.specs.Nodes.{nodes_of}
use Rattle.node_tree.proofs.check.are_children.Given as goal

abbrev pub invariant-loop-i : goal.invariant-loop-i
invariant-loop-i l =
    let g = λ (s : Span). is_child l.node.node (nodes_of l.pages s.child) s in
    all g (spans l.node.node.pairs l.node.node.high) ≡ all g (spans (drop l.i l.node.node.pairs) l.node.node.high)
