use Rattle.std.proofs.Common.{refl, ◌∙◌, ◌+◌, sym, ap, subst, arith}
use Rattle.btree_descent.specs.rows_trait.Views.{state}
use Rattle.row_sessions.specs.Standing.{AreSessions, IsOf}
use Rattle.row_sessions.proofs.Standings.{shape_of, stands_then}
use Rattle.row_sessions.proofs.Calls.{end_turns, end_after}
use Rattle.row_sessions.proofs.sessions.Sessions.end.Goals as goal

pub store_control-requires-clause-event : goal.store_control-requires-clause-event
store_control-requires-clause-event c =
    let st = c.requires.stands in
    let s = c.args.self.now in
    let e = c.session_of-session.ensures in
    end_turns s.seat.view s.rows.workers s.base c.args.worker s.sessions.items st.sessions st.sized.workers c.requires.worker.0 c.requires.worker.1 (shape_of s.rows) _ refl
    (ap (λ x. x.is_open) (sym e) ∙ c.if-not-session.false) (ap (λ x. x.clock + 1) e) (omega arith)

pub returns-clause-stands : goal.returns-clause-stands
returns-clause-stands c =
    let st = c.requires.stands in
    let s = c.args.self.now in
    let e = c.session_of-session.ensures in
    let step = c.store_control.ensures.step.1 in
    stands_then s _ st c.store_control.ensures.shape refl refl refl c.store_control.ensures.fits (step.held ∙ st.held) step.goes.given refl
    (subst (λ xs. AreSessions s.rows.workers s.base xs (state c.store_control.new.seat.view)) (sym c.set_session.ensures)
    (end_after s.seat.view s.rows.workers s.base c.args.worker s.sessions.items st.sessions st.sized.workers c.requires.worker.0 c.requires.worker.1 c.store_control.new.seat.view (shape_of s.rows) c.ended.result _ c.store_control.ensures.step.0 refl step
    (ap (λ x. x.is_open) (sym e) ∙ c.if-not-session.false) (ap (λ x. x.clock + 1) e) (omega arith) (λ a is. c.ended.ensures a (subst (λ x. IsOf s.base x a) (sym e) is))))
