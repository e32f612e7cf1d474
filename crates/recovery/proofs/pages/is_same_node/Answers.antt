use Rattle.std.proofs.Common.{◌≡◌, sym, ◌∙◌, ap}
use Rattle.std.proofs.lemmas.Slice.Eq.{bytes_eq-Decides}
use Rattle.page_model.specs.Nodes.{Node}
use Rattle.master_store.specs.btree_node.Words.{flat}
use Rattle.recovery.proofs.StrayLemmas.{same_bool, same_nodes}
use Rattle.recovery.proofs.pages.is_same_node.Goals as goal

pub returns : goal.returns
returns c =
    let x = c.args.one.now.node in
    let y = c.args.other.now.node in
    let live : x.live ≡ y.live = sym c.is_live.ensures ∙ (same_bool c.is_live.result c.is_live-2.result c.if-is_live.false ∙ c.is_live-2.ensures) in
    let level : x.level ≡ y.level = sym c.level.ensures.answer ∙ (c.if-level.false ∙ c.level-2.ensures.answer) in
    let low : x.low ≡ y.low = sym c.low.ensures ∙ (c.if-low.false ∙ c.low-2.ensures) in
    let high : x.high ≡ y.high = sym c.high.ensures ∙ (c.if-high.false ∙ c.high-2.ensures) in
    let pairs = bytes_eq-Decides c.pairs.result.now c.pairs-2.result.now in (
      λ t. same_nodes x y live level low high (sym c.pairs.ensures.answer ∙ (pairs.0 (sym c.eq.ensures ∙ t) ∙ c.pairs-2.ensures.answer)),
      λ e. c.eq.ensures ∙ pairs.1 (c.pairs.ensures.answer ∙ (ap (λ (n : Node). flat n.pairs) e ∙ sym c.pairs-2.ensures.answer)),
    )
