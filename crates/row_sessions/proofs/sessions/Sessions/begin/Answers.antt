use Rattle.std.proofs.Common.{refl, ◌∙◌, sym, ap, subst, arith}
use Rattle.btree_descent.specs.rows_trait.Views.{state}
use Rattle.row_sessions.specs.Standing.{AreSessions, IsOf}
use Rattle.row_sessions.proofs.Standings.{shape_of, stands_then}
use Rattle.row_sessions.proofs.Calls.{begin_after}
use Rattle.btree_descent.proofs.lean_proto.Turning.{every_begin}
use Rattle.row_sessions.proofs.sessions.Sessions.begin.Goals as goal

pub load_control-requires-clause-event : goal.load_control-requires-clause-event
load_control-requires-clause-event c n = (every_begin (shape_of c.args.self.now.rows) c.args.self.now.seat.view c.args.worker).silent refl c.args.self.now.base

pub load_control-requires-clause-tame : goal.load_control-requires-clause-tame
load_control-requires-clause-tame c n =
    let s = c.args.self.now in
    let at = (c.requires.stands.sessions.each c.args.worker c.requires.worker.1).clock in
    let e = ap (λ x. x.clock) c.session_of-session.ensures in
    let low = c.if-session-ge-CLOCK_END.false in
    (every_begin (shape_of s.rows) s.seat.view c.args.worker).tame (omega arith) s.base

pub returns-clause-stands : goal.returns-clause-stands
returns-clause-stands c =
    let st = c.requires.stands in
    let s = c.args.self.now in
    let e = c.session_of-session.ensures in
    let step = c.load_control.ensures.step in
    stands_then s _ st c.load_control.ensures.shape refl refl refl c.load_control.ensures.fits (step.held ∙ st.held) step.goes.given refl
    (subst (λ xs. AreSessions s.rows.workers s.base xs (state c.load_control.new.seat.view)) (sym c.set_session.ensures)
    (begin_after s.seat.view s.rows.workers s.base c.args.worker s.sessions.items st.sessions st.sized.workers c.requires.worker.0 c.requires.worker.1 c.load_control.new.seat.view (shape_of s.rows) c.begun.result c.load_control.result refl step
    (ap (λ x. x.is_open) (sym e) ∙ c.if-session.false) (λ a is. c.begun.ensures a (subst (λ x. IsOf s.base x a) (sym e) is))))
