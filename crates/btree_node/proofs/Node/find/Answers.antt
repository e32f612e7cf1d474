use Rattle.std.proofs.Common.{Some, ap, ◌∙◌}
use Rattle.btree_node.proofs.PlaceLemmas.{at-find}
use Rattle.btree_node.proofs.Node.find.Goals as goal

pub returns-in-Ok : goal.returns-in-Ok
returns-in-Ok c = ap Some c.word_at.ensures ∙ at-find c.args.key c.args.self.now.node.pairs c.in-Ok.at c.in-Ok.ensures.found
