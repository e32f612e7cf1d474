use Rattle.std.proofs.Common.{arith, length, ◌<◌}
use Rattle.btree_node.proofs.SpellingLemmas.{spells-view}
use Rattle.btree_node.proofs.PlaceLemmas.{node-gap, node-at}
use Rattle.btree_node.proofs.Node.search.Goals as goal

pub returns-then-words-at-clause-found : goal.returns-then-words-at-clause-found
returns-then-words-at-clause-found c = node-at c.self.inside.words c.args.self.now c.args.key c.place-at.result (spells-view _ _ c.self.view_is c.self.invariant) c.place-at.ensures.before (omega arith) c.if-words-at.true

pub returns-clause-gap : goal.returns-clause-gap
returns-clause-gap c = node-gap c.self.inside.words c.args.self.now c.args.key c.place-at.result (spells-view _ _ c.self.view_is c.self.invariant) c.place-at.ensures.before (λ h e. c.if-words-at.false e)

pub returns-then-at-count-clause-gap : goal.returns-then-at-count-clause-gap
returns-then-at-count-clause-gap c =
    let ne : c.place-at.result < length c.args.self.now.node.pairs → ⊥ = λ h. omega arith in
    node-gap c.self.inside.words c.args.self.now c.args.key c.place-at.result (spells-view _ _ c.self.view_is c.self.invariant) c.place-at.ensures.before (λ h e. ne h)
