use Rattle.btree_node.proofs.SpellingLemmas.{spells-view}
use Rattle.btree_node.proofs.FillLemmas.{free-written}
use Rattle.btree_node.proofs.Node.set_free.Goals as goal

pub invariant_of-self : goal.invariant_of-self
invariant_of-self c = (free-written c.self.inside.words c.end_with.new.words c.args.self.now (spells-view _ _ c.self.view_is c.self.invariant) c.end_with.ensures).page

pub returns : goal.returns
returns c = (free-written c.self.inside.words c.end_with.new.words c.args.self.now (spells-view _ _ c.self.view_is c.self.invariant) c.end_with.ensures).same
