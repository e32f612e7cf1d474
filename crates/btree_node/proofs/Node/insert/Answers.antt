use Rattle.btree_node.proofs.SpellingLemmas.{spells-view}
use Rattle.btree_node.proofs.ChangeLemmas.{node-put}
use Rattle.btree_node.proofs.Node.insert.Goals as goal

pub invariant_of-self : goal.invariant_of-self
invariant_of-self c = (node-put c.self.inside.words c.open_gap.new.words c.args.self.now c.args.at c.args.key c.args.word (spells-view _ _ c.self.view_is c.self.invariant) c.requires.gap c.requires.above c.requires.below c.requires.room c.open_gap.ensures).page

pub returns-clause-after : goal.returns-clause-after
returns-clause-after c = (node-put c.self.inside.words c.open_gap.new.words c.args.self.now c.args.at c.args.key c.args.word (spells-view _ _ c.self.view_is c.self.invariant) c.requires.gap c.requires.above c.requires.below c.requires.room c.open_gap.ensures).same

pub returns-clause-kept : goal.returns-clause-kept
returns-clause-kept c = (node-put c.self.inside.words c.open_gap.new.words c.args.self.now c.args.at c.args.key c.args.word (spells-view _ _ c.self.view_is c.self.invariant) c.requires.gap c.requires.above c.requires.below c.requires.room c.open_gap.ensures).page.fits
