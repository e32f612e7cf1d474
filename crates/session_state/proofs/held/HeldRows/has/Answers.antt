use Rattle.std.proofs.Common.{◌<◌, ◌≡◌, length, subst, sym}
use Rattle.btree_descent.specs.core_state.Needs.{is_reader}
use Rattle.session_state.specs.Held.{Held}
use Rattle.session_state.proofs.HeldLemmas.{mark_is}
use Rattle.session_state.proofs.held.HeldRows.has.Goals as goal

pub returns : goal.returns
returns c =
    let x = c.self.inside in
    let lt : c.args.row < length x.marks.items = subst (λ (h : Held). c.args.row < h.count) (sym c.self.view_is) c.requires in
    subst (λ (h : Held). c.index.result.now ≡ is_reader c.args.row h.rows) c.self.view_is (mark_is x.marks.items x.rows.items _ c.args.row c.self.invariant lt c.index.result.now c.index.ensures)
