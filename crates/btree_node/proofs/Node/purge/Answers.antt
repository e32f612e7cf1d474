use Rattle.btree_node.specs.Inside.{stays}
use Rattle.btree_node.proofs.SpellingLemmas.{spells-view}
use Rattle.btree_node.proofs.FillLemmas.{purge-written}
use Rattle.btree_node.proofs.Node.purge.Goals as goal

pub invariant_of-self : goal.invariant_of-self
invariant_of-self c = (purge-written c.self.inside.words c.close_gaps-kept.new.words c.end_with.new.words c.args.self.now (stays c.args.keys.now) c.close_gaps-kept.result (spells-view _ _ c.self.view_is c.self.invariant) c.close_gaps-kept.ensures.within c.close_gaps-kept.ensures.long c.close_gaps-kept.ensures.closed c.end_with.ensures).page

pub returns-clause-after : goal.returns-clause-after
returns-clause-after c = (purge-written c.self.inside.words c.close_gaps-kept.new.words c.end_with.new.words c.args.self.now (stays c.args.keys.now) c.close_gaps-kept.result (spells-view _ _ c.self.view_is c.self.invariant) c.close_gaps-kept.ensures.within c.close_gaps-kept.ensures.long c.close_gaps-kept.ensures.closed c.end_with.ensures).same

pub returns-clause-kept : goal.returns-clause-kept
returns-clause-kept c = (purge-written c.self.inside.words c.close_gaps-kept.new.words c.end_with.new.words c.args.self.now (stays c.args.keys.now) c.close_gaps-kept.result (spells-view _ _ c.self.view_is c.self.invariant) c.close_gaps-kept.ensures.within c.close_gaps-kept.ensures.long c.close_gaps-kept.ensures.closed c.end_with.ensures).page.fits
