use Rattle.std.proofs.Common.{refl, sym, ◌∙◌}
use Rattle.btree_node.proofs.FlatLemmas.{words-whole}
use Rattle.btree_node.proofs.StructureLemmas.{words-ordered, same-filled}
use Rattle.btree_node.proofs.Node.lift.Goals as goal

pub fill-requires-clause-whole : goal.fill-requires-clause-whole
fill-requires-clause-whole c = words-whole c.pairs.result.now c.args.self.now.node.pairs c.pairs.ensures.answer

pub fill-requires-clause-ordered : goal.fill-requires-clause-ordered
fill-requires-clause-ordered c =
    let v = c.args.self.now in
    words-ordered c.pairs.result.now v.node.pairs v.node.low v.node.high 0 c.high-high.result c.pairs.ensures.answer (sym c.requires.low) c.high-high.ensures c.pairs.ensures.fits.ordered

pub returns-clause-child : goal.returns-clause-child
returns-clause-child c =
    let v = c.args.self.now in
    c.fill.ensures ∙ same-filled c.args.child.now v.node.pairs c.pairs.result.now v.node.level 0 v.node.high c.level-level.result 0 c.high-high.result c.pairs.ensures.answer c.level-level.ensures.answer refl c.high-high.ensures
