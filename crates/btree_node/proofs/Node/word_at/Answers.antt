use Rattle.btree_node.proofs.SpellingLemmas.{spells-view, spells-word}
use Rattle.btree_node.proofs.Node.word_at.Goals as goal

pub returns : goal.returns
returns c = spells-word c.self.inside.words c.args.self.now c.args.i (spells-view _ _ c.self.view_is c.self.invariant) c.requires
