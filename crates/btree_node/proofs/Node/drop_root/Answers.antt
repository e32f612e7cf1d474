use Rattle.std.proofs.Common.{ap, sym, ◌∙◌}
use Rattle.btree_node.proofs.FlatLemmas.{words-whole}
use Rattle.btree_node.proofs.StructureLemmas.{words-ordered, same-filled}
use Rattle.btree_node.proofs.Node.drop_root.Goals as goal

pub fill-requires-clause-whole : goal.fill-requires-clause-whole
fill-requires-clause-whole c = words-whole c.pairs.result.now c.args.child.now.node.pairs c.pairs.ensures.answer

pub fill-requires-clause-ordered : goal.fill-requires-clause-ordered
fill-requires-clause-ordered c =
    let u = c.args.child.now in
    words-ordered c.pairs.result.now u.node.pairs u.node.low u.node.high c.low.result c.high.result c.pairs.ensures.answer (c.low.ensures ∙ sym c.requires.low) (c.high.ensures ∙ sym c.requires.high) c.pairs.ensures.fits.ordered

pub returns-clause-root : goal.returns-clause-root
returns-clause-root c =
    let v = c.args.self.now in
    let u = c.args.child.now in
    c.fill.ensures
    ∙ same-filled v u.node.pairs c.pairs.result.now u.node.level v.node.low v.node.high c.level.result c.low.result c.high.result c.pairs.ensures.answer c.level.ensures.answer c.low.ensures c.high.ensures
    ∙ ap (λ b. record v { node = record { live = b; level = u.node.level; low = v.node.low; high = v.node.high; pairs = u.node.pairs } }) (sym c.requires.live)
