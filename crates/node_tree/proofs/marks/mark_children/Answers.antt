use Rattle.std.proofs.Common.{◌<◌, length, arith}
use Rattle.node_tree.proofs.MarkLemmas.{marking_more}
use Rattle.node_tree.proofs.marks.mark_children.Goals as goal

pub loop-i-preserved : goal.loop-i-preserved
loop-i-preserved c =
    let v = c.args.node.now.node in
    let within : c.loop-i.i < length v.pairs = omega arith in
    marking_more v.pairs v.high c.loop-i.i c.word_at.result c.args.row.now c.loop-i.row c.mark.new.row within c.word_at.ensures c.loop-i.invariant c.mark.ensures
