use Rattle.std.proofs.Common.{◌≡◌, ◌≤◌, ◌<◌, ◌-◌, suc, length, ◌∙◌, ap, arith}
use Rattle.std.proofs.lemmas.Bool.{ltb-true, ltb-false}
use Rattle.log_index.specs.Items.{Item}
use Rattle.log_index.specs.declared.head.Head.{Head}
use Rattle.recovery_scan.specs.Inside.{Neighbours}
use Rattle.recovery_scan.proofs.RisingLemmas.{Stand, stand, one_is, other_is}
use Rattle.recovery_scan.proofs.block.is_above.Goals as goal

pub returns-clause-yes : goal.returns-clause-yes
returns-clause-yes c above n place =
    let items = c.args.index.now in
    let one : c.head.result.number ≡ n.one.said.gsn = ap (λ (h : Head). h.number) (c.head.ensures n.one) ∙ ap (λ (x : Item). x.said.gsn) (one_is items n c.args.i place n.one) in
    let other : c.head-2.result.number ≡ n.other.said.gsn = ap (λ (h : Head). h.number) (c.head-2.ensures n.one) ∙ ap (λ (x : Item). x.said.gsn) (other_is items n c.args.i place n.one) in
    let lt : c.head.result.number < c.head-2.result.number = ltb-true c.head.result.number c.head-2.result.number above in
    omega (arith, lt, one, other)

pub returns-clause-no : goal.returns-clause-no
returns-clause-no c above start from lt le =
    let items = c.args.index.now in
    let s : Stand items (c.args.i - 1) = stand items (c.args.i - 1) (omega arith) in
    let n : Neighbours items = s.at in
    let at : length n.older ≡ c.args.i - 1 = s.place in
    let place : suc (length n.older) ≡ c.args.i = omega (arith, at, lt) in
    let one : c.head.result.number ≡ n.one.said.gsn = ap (λ (h : Head). h.number) (c.head.ensures n.one) ∙ ap (λ (x : Item). x.said.gsn) (one_is items n c.args.i place n.one) in
    let other : c.head-2.result.number ≡ n.other.said.gsn = ap (λ (h : Head). h.number) (c.head-2.ensures n.one) ∙ ap (λ (x : Item). x.said.gsn) (other_is items n c.args.i place n.one) in
    let back : c.head-2.result.number ≤ c.head.result.number = ltb-false c.head.result.number c.head-2.result.number above in
    record { at = n; begins = omega (arith, place, lt); added = omega (arith, place, le); late = omega (arith, back, one, other) }
