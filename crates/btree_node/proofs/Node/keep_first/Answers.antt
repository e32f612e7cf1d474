use Rattle.btree_node.proofs.SpellingLemmas.{spells-view}
use Rattle.btree_node.proofs.FillLemmas.{keep-written}
use Rattle.btree_node.proofs.Node.keep_first.Goals as goal

pub invariant_of-self : goal.invariant_of-self
invariant_of-self c = (keep-written c.self.inside.words c.end_with.new.words c.args.self.now c.args.kept c.args.high (spells-view _ _ c.self.view_is c.self.invariant) c.requires.within c.requires.ordered c.end_with.ensures).page

pub returns : goal.returns
returns c = (keep-written c.self.inside.words c.end_with.new.words c.args.self.now c.args.kept c.args.high (spells-view _ _ c.self.view_is c.self.invariant) c.requires.within c.requires.ordered c.end_with.ensures).same
