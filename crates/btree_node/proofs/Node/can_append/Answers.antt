use Rattle.std.proofs.Common.{◌≡◌, ◌-◌, ◌<◌, suc, length, sym, ap, ◌∙◌, subst, arith}
use Rattle.std.proofs.lemmas.Bool.Decides.{nat_tests}
use Rattle.btree_node.specs.Words.{pairs_of, IsOrdered}
use Rattle.btree_node.specs.Inside.{rises}
use Rattle.btree_node.proofs.SpellingLemmas.{spells-view}
use Rattle.btree_node.proofs.OrderLemmas.{words-rise, words-from_rise, none-before, follow-from, follow-ordered}
use Rattle.btree_node.proofs.Node.can_append.Goals as goal

pub returns-then-count-eq0 : goal.returns-then-count-eq0
returns-then-count-eq0 c =
    let v = c.args.self.now in
    let ws = c.args.pairs.now in
    let none : length v.node.pairs ≡ 0 = sym c.count-count.ensures.answer ∙ c.if-count-eq0.true in
    let e = none-before v.node.pairs (pairs_of ws) none in
    let r : c.is_rising.result ≡ rises v.node.low c.args.high ws = c.is_rising.ensures ∙ ap (λ a. rises a c.args.high ws) c.low.ensures in
    ((λ h. subst (λ qs. IsOrdered v.node.low qs c.args.high) (sym e) (words-from_rise v.node.low c.args.high ws c.requires (sym r ∙ h))), (λ o. r ∙ words-rise v.node.low c.args.high ws c.requires (subst (λ qs. IsOrdered v.node.low qs c.args.high) e o)))

pub returns-then-last-high : goal.returns-then-last-high
returns-then-last-high c =
    let v = c.args.self.now in
    let ws = c.args.pairs.now in
    let n = c.count-count.result - 1 in
    let some : length v.node.pairs ≡ suc n = omega arith in
    let f = (spells-view _ _ c.self.view_is c.self.invariant).fits in (
      (λ h. follow-ordered v.node.low c.args.high v.node.high c.key_at-last.result n v.node.pairs ws c.requires some c.key_at-last.ensures f.ordered (record { below = c.if-last-high.true; rise = sym c.is_rising-then-last-high.ensures ∙ h })),
      (λ o. c.is_rising-then-last-high.ensures ∙ (follow-from v.node.low c.args.high c.key_at-last.result n v.node.pairs ws c.requires some c.key_at-last.ensures o).rise),
    )

pub returns-else-last-high : goal.returns-else-last-high
returns-else-last-high c =
    let v = c.args.self.now in
    let ws = c.args.pairs.now in
    let n = c.count-count.result - 1 in
    let some : length v.node.pairs ≡ suc n = omega arith in
    let no : c.key_at-last.result < c.args.high → ⊥ = λ h. omega arith in (
      (λ t. absurd (no (grind (arith, nat_tests)))),
      (λ o. absurd (no (follow-from v.node.low c.args.high c.key_at-last.result n v.node.pairs ws c.requires some c.key_at-last.ensures o).below)),
    )
