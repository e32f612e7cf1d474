use Rattle.std.proofs.Common.{refl, ◌∙◌, ◌%◌, ◌+◌, sym, subst}
use Rattle.btree_descent.specs.rows_trait.Views.{state}
use Rattle.row_sessions.specs.Standing.{AreSessions, IsOf}
use Rattle.row_sessions.proofs.Standings.{stands_then, sessions_core}
use Rattle.row_sessions.proofs.Locks.{refused_core, lock_after}
use Rattle.row_sessions.proofs.sessions.Sessions.lock.Goals as goal

pub returns-in-Ok-clause-stands : goal.returns-in-Ok-clause-stands
returns-in-Ok-clause-stands c =
    let st = c.requires.stands in
    let s = c.args.self.now in
    let e = c.session_of-session.ensures in
    let u = c.lock.new.seat.view in
    let fits = c.in-Ok.ensures.fits in
    let has = c.in-Ok.ensures.ok in
    stands_then s _ st fits.1 refl refl refl fits.0 (fits.2 ∙ st.held) has.published.ran.given refl
    (subst (λ xs. AreSessions s.rows.workers s.base xs (state u)) (sym c.set_session.ensures)
    (lock_after s.seat.view u s.rows.workers s.base c.args.worker (c.args.key % s.locks) s.sessions.items c.met.result c.args.mode c.in-Ok.stamp c.requires.worker.0 c.requires.worker.1 st.sessions has
    (λ b a o is stamp. c.met.ensures b a o (subst (λ x. IsOf b x a) (sym e) is) stamp)))

pub returns-in-Err-clause-stands : goal.returns-in-Err-clause-stands
returns-in-Err-clause-stands c =
    let st = c.requires.stands in
    let s = c.args.self.now in
    let u = c.lock.new.seat.view in
    let fits = c.in-Err.ensures.fits in
    let same = refused_core c.args.worker (s.frames + c.args.key % s.locks) (c.args.key % s.locks) c.args.mode s.seat.view u c.in-Err.refusal c.in-Err.ensures.err in
    stands_then s _ st fits.1 refl refl refl fits.0 (fits.2 ∙ st.held) same.0 refl
    (sessions_core s.rows.workers s.base s.sessions.items (state s.seat.view) (state u) same.1 st.sessions)
