use Rattle.btree_node.proofs.SpellingLemmas.{rises-more}
use Rattle.btree_node.proofs.spelling.is_rising.Goals as goal

pub loop-i-preserved : goal.loop-i-preserved
loop-i-preserved c = rises-more _ c.loop-i.next c.args.high c.args.words.now c.loop-i.i c.loop-i-test.true c.if-key-next.false c.if-key-high.false c.loop-i.invariant
