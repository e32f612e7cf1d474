use Rattle.btree_node.proofs.SpellingLemmas.{spells-view}
use Rattle.btree_node.proofs.FillLemmas.{words-from}
use Rattle.btree_node.proofs.Node.pairs_from.Goals as goal

pub returns-clause-answer : goal.returns-clause-answer
returns-clause-answer c = words-from c.self.inside.words c.args.self.now c.args.i (spells-view _ _ c.self.view_is c.self.invariant) c.requires
