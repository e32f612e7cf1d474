use Rattle.btree_node.proofs.SpellingLemmas.{spells-view, spells-key}
use Rattle.btree_node.proofs.Node.key_at.Goals as goal

pub returns : goal.returns
returns c = spells-key c.self.inside.words c.args.self.now c.args.i (spells-view _ _ c.self.view_is c.self.invariant) c.requires
