use Rattle.std.proofs.Common.{◌≡◌, ◌<◌, true, length, sym, ◌∙◌, arith}
use Rattle.page_model.specs.Needs.{key_at}
use Rattle.disk_slots.proofs.PageLemmas.{leaf-from, leaf-to, inner-from, inner-to}
use Rattle.disk_slots.proofs.page.is_storable.Goals as goal

pub returns-then-level-eq0 : goal.returns-then-level-eq0
returns-then-level-eq0 c =
    let v = c.args.node.now.node in
    let live : v.live ≡ true = sym c.is_live.ensures ∙ c.if-not-is_live.false in
    let leaf : v.level ≡ 0 = sym c.level.ensures.answer ∙ c.if-level-eq0.true in
    ((λ h. leaf-from c.args.pages v live leaf (c.are_values.ensures.0 h)), (λ s. c.are_values.ensures.1 (leaf-to c.args.pages v live leaf s)))

pub returns : goal.returns
returns c =
    let v = c.args.node.now.node in
    let live : v.live ≡ true = sym c.is_live.ensures ∙ c.if-not-is_live.false in
    let e = c.level.ensures.answer in
    let ne = c.if-level-eq0.false in
    let inner : 0 < v.level = omega arith in
    let some : length v.pairs ≡ 0 → ⊥ = λ z. c.if-count-eq0.false (c.count.ensures.answer ∙ z) in
    let first : key_at 0 v.pairs ≡ v.low = sym c.key_at.ensures ∙ c.if-key_at-low.false ∙ c.low.ensures in
    ((λ h. inner-from c.args.pages v live inner some first (c.are_children.ensures.0 h)), (λ s. c.are_children.ensures.1 (inner-to c.args.pages v live inner s)))
