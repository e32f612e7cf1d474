use Rattle.std.proofs.Common.{◌+◌, max, ◌∙◌, ap, arith}
use Rattle.recovery_redo.proofs.TopLemmas.{atop_none, atop_more, atop_all}
use Rattle.recovery_redo.proofs.recover.base_number.Goals as goal

pub loop-node-init : goal.loop-node-init
loop-node-init c = atop_none c.args.top c.args.pages.now

pub loop-node-preserved : goal.loop-node-preserved
loop-node-preserved c =
    let k = c.loop-node.node-index in
    atop_more c.args.top c.args.pages.now k (k + 1) c.loop-node.most c.max-most.result c.node-item.result c.node-item.result (omega arith) c.loop-node-test.true c.node-item.is
    (c.max-most.ensures ∙ ap (max c.loop-node.most) c.gsn.ensures) c.loop-node.invariant

pub returns : goal.returns
returns c = atop_all c.args.top c.args.pages.now c.loop-node.node-index c.loop-node.most (let l = c.loop-node-test.false in let a = c.loop-node.auto.node-index-end in omega arith) c.loop-node.invariant
