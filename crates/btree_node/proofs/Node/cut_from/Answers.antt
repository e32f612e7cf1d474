use Rattle.std.proofs.Common.{List, take, ap, sym, ◌∙◌, subst}
use Rattle.page_model.specs.Pairs.{Pair}
use Rattle.btree_node.specs.Words.{IsOrdered}
use Rattle.btree_node.proofs.PlaceLemmas.{take-place, below-ordered}
use Rattle.btree_node.proofs.Node.cut_from.Goals as goal

pub keep_first-requires-clause-ordered : goal.keep_first-requires-clause-ordered
keep_first-requires-clause-ordered c =
    let v = c.args.self.now in
    let o = c.place-kept.ensures.fits.ordered in
    let e = ap (λ j. take j v.node.pairs) c.place-kept.ensures.before ∙ take-place v.node.low v.node.high c.args.separator v.node.pairs o in
    subst (λ (qs : List Pair). IsOrdered v.node.low qs c.args.separator) (sym e) (below-ordered v.node.low v.node.high c.args.separator v.node.pairs o)

pub returns : goal.returns
returns c =
    let v = c.args.self.now in
    let e = ap (λ j. take j v.node.pairs) c.place-kept.ensures.before ∙ take-place v.node.low v.node.high c.args.separator v.node.pairs c.place-kept.ensures.fits.ordered in
    c.keep_first.ensures ∙ ap (λ (qs : List Pair). record v { node = record v.node { high = c.args.separator; pairs = qs } }) e
