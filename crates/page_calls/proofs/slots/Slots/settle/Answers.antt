use Rattle.std.proofs.Common.{◌≡◌, ◌∙◌, List, Some, length, map, set, slice_get, ap, subst, arith}
use Rattle.page_calls.specs.declared.slots.Slot.{Slot}
use Rattle.page_calls.specs.Slots.{settled_slot}
use Rattle.page_calls.proofs.Knowing.{settled_first, first_more, first_all, first_length, get_some}
use Rattle.page_calls.proofs.slots.Slots.settle.Goals as goal

pub loop-page-preserved : goal.loop-page-preserved
loop-page-preserved c =
    let now = c.loop-page.self-inside.slots.items in
    let first = c.self.inside.slots.items in
    let n = c.loop-page.page in
    let inv = c.loop-page.invariant.items in
    let long = ap length inv ∙ first_length n first in
    let whole = c.self.inside.slots.ok.0 in
    let end = c.len-page-end.ensures in
    let lt = c.loop-page-test.true in
    let got = get_some now n c.index.result.now (omega arith) c.index.ensures in
    record { items = (λ i. set (inv i) n (c.settled.ensures i)) ∙ first_more n first c.index.result.now (subst (λ (ss : List Slot). slice_get ss n ≡ Some c.index.result.now) inv got) }

pub returns : goal.returns
returns c =
    let first = c.self.inside.slots.items in
    let whole = c.self.inside.slots.ok.0 in
    let end = c.len-page-end.ensures in
    let top = c.loop-page-test.false in
    let most = c.loop-page.auto.page-end in
    let all : c.loop-page.page ≡ length first = omega arith in
    c.loop-page.invariant.items ∙ (ap (λ k. settled_first k first) all ∙ (first_all first ∙ ap (map settled_slot) c.self.view_is))
