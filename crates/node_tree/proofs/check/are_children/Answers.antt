use Rattle.std.proofs.Common.{◌<◌, length, ◌∙◌, sym, arith}
use Rattle.node_tree.specs.Nodes.{nodes_of}
use Rattle.node_tree.proofs.PairLemmas.{children_bad, children_more}
use Rattle.node_tree.proofs.check.are_children.Goals as goal

pub returns-then-not-is_child : goal.returns-then-not-is_child
returns-then-not-is_child c =
    let within : c.loop-i.i < length c.args.node.now.node.pairs = omega arith in
    children_bad (nodes_of c.args.pages.now) c.args.node.now.node c.loop-i.i within (sym c.is_child.ensures ∙ c.if-not-is_child.true) c.loop-i.invariant

pub loop-i-preserved : goal.loop-i-preserved
loop-i-preserved c =
    let within : c.loop-i.i < length c.args.node.now.node.pairs = omega arith in
    children_more (nodes_of c.args.pages.now) c.args.node.now.node c.loop-i.i within (sym c.is_child.ensures ∙ c.if-not-is_child.false) c.loop-i.invariant
