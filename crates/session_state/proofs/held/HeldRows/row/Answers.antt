use Rattle.std.proofs.Common.{◌<◌, length, ap, arith, subst}
use Rattle.session_state.specs.Held.{Held}
use Rattle.session_state.proofs.HeldLemmas.{row_within}
use Rattle.session_state.proofs.held.HeldRows.row.Goals as goal

pub returns-clause-within : goal.returns-clause-within
returns-clause-within c =
    let x = c.self.inside in
    let v = c.requires in
    let n = ap (λ (h : Held). length h.rows) c.self.view_is in
    let lt : c.args.at < length x.rows.items = omega arith in
    let low = row_within x.marks.items x.rows.items _ c.args.at c.index.result.now c.self.invariant lt c.index.ensures in
    subst (λ (h : Held). c.index.result.now < h.count) c.self.view_is low
