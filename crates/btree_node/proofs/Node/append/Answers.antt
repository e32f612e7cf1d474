use Rattle.btree_node.proofs.SpellingLemmas.{spells-view}
use Rattle.btree_node.proofs.FillLemmas.{append-written}
use Rattle.btree_node.proofs.Node.append.Goals as goal

pub invariant_of-self : goal.invariant_of-self
invariant_of-self c = (append-written c.self.inside.words c.end_with.new.words c.args.pairs.now c.args.self.now c.args.high (spells-view _ _ c.self.view_is c.self.invariant) c.requires.room c.requires.whole c.requires.ordered c.end_with.ensures).page

pub returns : goal.returns
returns c = (append-written c.self.inside.words c.end_with.new.words c.args.pairs.now c.args.self.now c.args.high (spells-view _ _ c.self.view_is c.self.invariant) c.requires.room c.requires.whole c.requires.ordered c.end_with.ensures).same
