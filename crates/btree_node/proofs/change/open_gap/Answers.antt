use Rattle.std.proofs.Common.{arith}
use Rattle.btree_node.proofs.ChangeLemmas.{spread-step}
use Rattle.btree_node.proofs.change.open_gap.Goals as goal

pub loop-i-preserved : goal.loop-i-preserved
loop-i-preserved c = record {
  order = omega arith;
  within = omega arith;
  spread = spread-step c.args.words.now c.loop-i.words c.loop-i.i c.args.end (omega arith) (omega arith) (omega arith) c.loop-i.invariant.spread;
}
