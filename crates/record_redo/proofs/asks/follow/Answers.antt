use Rattle.std.proofs.Common.{◌++◌}
use Rattle.disk_image.specs.btree_node.Words.{pairs_of}
use Rattle.record_redo.proofs.MakeLemmas.{ordered_test}
use Rattle.record_redo.proofs.asks.follow.Goals as goal

pub returns : goal.returns
returns c = let v = c.args.node.now.node in ordered_test v.low (v.pairs ++ pairs_of c.args.words.now) c.args.high c.can_append.result c.can_append.ensures
