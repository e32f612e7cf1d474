use Rattle.disk_image.specs.btree_node.Words.{pairs_of}
use Rattle.record_redo.proofs.MakeLemmas.{ordered_test}
use Rattle.record_redo.proofs.asks.is_ordered.Goals as goal

pub returns : goal.returns
returns c = ordered_test c.args.low (pairs_of c.args.words.now) c.args.high c.are_ordered.result c.are_ordered.ensures
