use Rattle.std.proofs.Common.{◌<◌, length, refl, sym, subst, arith}
use Rattle.session_state.proofs.HeldLemmas.{has_room, kept_row, marked_as, marked_more, taken_row}
use Rattle.session_state.proofs.held.HeldRows.take.Goals as goal

pub push_reserved-requires : goal.push_reserved-requires
push_reserved-requires c =
    let x = c.self.inside in
    let lt : c.args.row < length x.marks.items = subst (λ h. c.args.row < h.count) (sym c.self.view_is) c.requires in
    let q = has_room x.marks.items x.rows.items _ c.args.row c.self.invariant lt c.index.result.now c.index.ensures c.if-not-index.true in
    let p = x.rows.ok.0 in
    omega arith

pub invariant_of-self : goal.invariant_of-self
invariant_of-self c =
    let x = c.self.inside in
    let lt : c.args.row < length x.marks.items = subst (λ h. c.args.row < h.count) (sym c.self.view_is) c.requires in
    marked_as _ _ _ _ _ _ (marked_more x.marks.items x.rows.items _ c.args.row c.self.invariant lt c.index.result.now c.index.ensures c.if-not-index.true) refl c.push_reserved.ensures.items c.push_reserved.ensures.capacity

pub returns-then-not-index : goal.returns-then-not-index
returns-then-not-index c =
    let x = c.self.inside in
    let lt : c.args.row < length x.marks.items = subst (λ h. c.args.row < h.count) (sym c.self.view_is) c.requires in
    taken_row x.marks.items x.rows.items _ c.args.row c.self.invariant lt c.index.result.now c.index.ensures c.if-not-index.true c.args.self.now (sym c.self.view_is) _ _ refl c.push_reserved.ensures.items

pub returns-else-not-index : goal.returns-else-not-index
returns-else-not-index c =
    let x = c.self.inside in
    let lt : c.args.row < length x.marks.items = subst (λ h. c.args.row < h.count) (sym c.self.view_is) c.requires in
    kept_row x.marks.items x.rows.items _ c.args.row c.self.invariant lt c.index.result.now c.index.ensures c.if-not-index.false c.args.self.now (sym c.self.view_is)
