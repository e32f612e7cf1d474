use Rattle.std.proofs.Common.{arith}
use Rattle.btree_node.proofs.FillLemmas.{ended-written}
use Rattle.btree_node.proofs.fill.end_with.Goals as goal

pub returns : goal.returns
returns c = ended-written c.args.words.now c.copy_words.new.words c.args.pairs.now c.clear_words.new.words c.args.at (omega arith) c.copy_words.ensures c.clear_words.ensures
