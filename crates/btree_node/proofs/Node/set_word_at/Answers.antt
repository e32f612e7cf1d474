use Rattle.btree_node.proofs.SpellingLemmas.{spells-view}
use Rattle.btree_node.proofs.ChangeLemmas.{node-set_word}
use Rattle.btree_node.proofs.Node.set_word_at.Goals as goal

pub invariant_of-self : goal.invariant_of-self
invariant_of-self c = (node-set_word c.self.inside.words c.args.self.now c.args.i c.args.word (spells-view _ _ c.self.view_is c.self.invariant) c.requires).page

pub returns-clause-after : goal.returns-clause-after
returns-clause-after c = (node-set_word c.self.inside.words c.args.self.now c.args.i c.args.word (spells-view _ _ c.self.view_is c.self.invariant) c.requires).same

pub returns-clause-kept : goal.returns-clause-kept
returns-clause-kept c = (node-set_word c.self.inside.words c.args.self.now c.args.i c.args.word (spells-view _ _ c.self.view_is c.self.invariant) c.requires).page.fits
