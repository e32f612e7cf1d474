use Rattle.btree_node.proofs.SpellingLemmas.{spells-view}
use Rattle.btree_node.proofs.FillLemmas.{fill-written}
use Rattle.btree_node.proofs.Node.fill.Goals as goal

pub invariant_of-self : goal.invariant_of-self
invariant_of-self c = (fill-written c.self.inside.words c.end_with.new.words c.args.pairs.now c.args.self.now c.args.level c.from.result c.args.low c.args.high (spells-view _ _ c.self.view_is c.self.invariant) c.requires.level c.requires.room c.requires.whole c.requires.ordered c.end_with.ensures c.from.ensures).page

pub returns : goal.returns
returns c = (fill-written c.self.inside.words c.end_with.new.words c.args.pairs.now c.args.self.now c.args.level c.from.result c.args.low c.args.high (spells-view _ _ c.self.view_is c.self.invariant) c.requires.level c.requires.room c.requires.whole c.requires.ordered c.end_with.ensures c.from.ensures).same
