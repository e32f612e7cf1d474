use Rattle.std.proofs.Common.{◌<◌, ◌/◌, length, drop, take, refl, ap, sym, ◌∙◌, subst, arith}
use Rattle.page_model.specs.Pairs.{below, onward}
use Rattle.page_model.specs.Needs.{key_at}
use Rattle.btree_node.specs.Words.{IsOrdered}
use Rattle.btree_node.specs.Structure.{filled}
use Rattle.btree_node.proofs.FlatLemmas.{words-whole}
use Rattle.btree_node.proofs.PlaceLemmas.{ordered-rising, take-below, drop-onward}
use Rattle.btree_node.proofs.StructureLemmas.{words-ordered, same-filled, left-ordered, right-ordered}
use Rattle.btree_node.proofs.Node.split.Goals as goal

pub fill-requires-clause-whole : goal.fill-requires-clause-whole
fill-requires-clause-whole c = words-whole c.pairs_from.result.now (drop (c.count-half.result / 2) c.args.self.now.node.pairs) c.pairs_from.ensures.answer

pub fill-requires-clause-ordered : goal.fill-requires-clause-ordered
fill-requires-clause-ordered c =
    let v = c.args.self.now in
    let h = c.count-half.result / 2 in
    let lt : h < length v.node.pairs = omega arith in
    words-ordered c.pairs_from.result.now (drop h v.node.pairs) (key_at h v.node.pairs) v.node.high c.key_at-separator.result c.high.result c.pairs_from.ensures.answer c.key_at-separator.ensures c.high.ensures (right-ordered v h c.pairs_from.ensures.fits lt)

pub keep_first-requires-clause-ordered : goal.keep_first-requires-clause-ordered
keep_first-requires-clause-ordered c =
    let v = c.args.self.now in
    let h = c.count-half.result / 2 in
    let lt : h < length v.node.pairs = omega arith in
    subst (IsOrdered v.node.low (take h v.node.pairs)) (sym c.key_at-separator.ensures) (left-ordered v h c.pairs_from.ensures.fits lt)

pub returns-clause-left : goal.returns-clause-left
returns-clause-left c =
    let v = c.args.self.now in
    let h = c.count-half.result / 2 in
    let lt : h < length v.node.pairs = omega arith in
    let r = ordered-rising v.node.low v.node.pairs v.node.high h c.pairs_from.ensures.fits.ordered lt in
    c.keep_first.ensures ∙ ap (λ qs. record v { node = record v.node { high = c.key_at-separator.result; pairs = qs } }) (take-below v.node.low v.node.high v.node.pairs h r lt ∙ ap (λ k. below k v.node.pairs) (sym c.key_at-separator.ensures))

pub returns-clause-right : goal.returns-clause-right
returns-clause-right c =
    let v = c.args.self.now in
    let u = c.args.right.now in
    let h = c.count-half.result / 2 in
    let sep = c.key_at-separator.result in
    let lt : h < length v.node.pairs = omega arith in
    let r = ordered-rising v.node.low v.node.pairs v.node.high h c.pairs_from.ensures.fits.ordered lt in
    c.fill.ensures
    ∙ same-filled u (drop h v.node.pairs) c.pairs_from.result.now v.node.level sep v.node.high c.level.result sep c.high.result c.pairs_from.ensures.answer c.level.ensures.answer refl c.high.ensures
    ∙ ap (filled u v.node.level sep v.node.high) (drop-onward v.node.low v.node.high v.node.pairs h r lt ∙ ap (λ k. onward k v.node.pairs) (sym c.key_at-separator.ensures))
