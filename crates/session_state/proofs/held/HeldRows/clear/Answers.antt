use Rattle.std.proofs.Common.{◌≤◌, ◌<◌, length, [], vec_len, vec_capacity, refl, sym, ap, ◌∙◌, subst, arith, length-set}
use Rattle.session_state.specs.Held.{AreMarked, Held}
use Rattle.session_state.proofs.HeldLemmas.{left_first, left_last, left_next, row_within}
use Rattle.session_state.proofs.held.HeldRows.clear.Goals as goal

pub loop-at-init : goal.loop-at-init
loop-at-init c = (refl, refl, left_first c.self.inside.marks.items c.self.inside.rows.items _ c.self.invariant)

pub index-requires : goal.index-requires
index-requires c = let q = ap vec_len c.loop-at.invariant.0 in let p = c.loop-at-test.true in let r = c.len-at-end.ensures in omega arith

pub index_mut-requires : goal.index_mut-requires
index_mut-requires c =
    let now = c.loop-at.self-inside in
    let q = ap vec_len c.loop-at.invariant.0 in let p = c.loop-at-test.true in let r = c.len-at-end.ensures in let k = now.rows.ok.0 in
    let lt : c.loop-at.at < length now.rows.items = omega arith in
    let m = subst (λ v. AreMarked c.self.inside.marks.items v.items (vec_capacity v)) (sym c.loop-at.invariant.0) c.self.invariant in
    let low = row_within c.self.inside.marks.items now.rows.items _ c.loop-at.at c.index.result.now m lt c.index.ensures in
    let same = c.loop-at.invariant.1 in let j = now.marks.ok.0 in
    omega arith

pub loop-at-preserved : goal.loop-at-preserved
loop-at-preserved c =
    let now = c.loop-at.self-inside in
    let q = ap vec_len c.loop-at.invariant.0 in let p = c.loop-at-test.true in let r = c.len-at-end.ensures in let k = now.rows.ok.0 in
    let lt : c.loop-at.at < length now.rows.items = omega arith in
    let m = subst (λ v. AreMarked c.self.inside.marks.items v.items (vec_capacity v)) (sym c.loop-at.invariant.0) c.self.invariant in
    let low = row_within c.self.inside.marks.items now.rows.items _ c.loop-at.at c.index.result.now m lt c.index.ensures in
    let same = c.loop-at.invariant.1 in
    (c.loop-at.invariant.0, length-set now.marks.items c.index.result.now _ ∙ same, left_next now.marks.items now.rows.items c.loop-at.at c.index.result.now c.loop-at.invariant.2 lt c.index.ensures (omega arith))

pub invariant_of-self : goal.invariant_of-self
invariant_of-self c =
    let now = c.loop-at.self-inside in
    let q = ap vec_len c.loop-at.invariant.0 in let p = c.loop-at-test.false in let r = c.len-at-end.ensures in let k = now.rows.ok.0 in
    let ge : length now.rows.items ≤ c.loop-at.at = omega arith in
    let few = c.self.invariant.few in let room = c.self.invariant.room in let same = c.loop-at.invariant.1 in let cap = ap vec_capacity c.loop-at.invariant.0 in let d = c.clear.ensures.capacity in
    left_last now.marks.items now.rows.items c.clear.new.self.items c.loop-at.at _ c.loop-at.invariant.2 ge c.clear.ensures.items (omega arith) (omega arith)

pub returns : goal.returns
returns c = (λ i. record { count = c.loop-at.invariant.1 i; rows = c.clear.ensures.items i }) ∙ ap (λ (h : Held). record { count = h.count; rows = [] }) c.self.view_is
