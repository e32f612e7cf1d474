use Rattle.std.proofs.Common.{refl, ◌∙◌, sym, ap, subst, set, arith}
use Rattle.btree_descent.specs.rows_trait.Views.{state}
use Rattle.row_sessions.specs.Standing.{AreSessions, drawn_session}
use Rattle.row_sessions.proofs.Standings.{shape_of, stands_then, sessions_core}
use Rattle.row_sessions.proofs.Reshaping.{missed_core, declined_core, cleared_after, base_floor}
use Rattle.row_sessions.proofs.sessions.Sessions.purge.Goals as goal

pub purge-requires-clause-floor : goal.purge-requires-clause-floor
purge-requires-clause-floor c =
    let st = c.requires.stands in
    let s = c.args.self.now in
    let low = c.requires.worker.0 in
    let high = c.requires.worker.1 in
    base_floor (shape_of s.rows) s.seat.view s.rows.workers s.base s.sessions.items (omega arith) st.sized.workers st.sessions

pub returns-in-Done-clause-stands : goal.returns-in-Done-clause-stands
returns-in-Done-clause-stands c =
    let st = c.requires.stands in
    let s = c.args.self.now in
    let u = c.purge.new.seat.view in
    let e = c.session_of-session.ensures in
    let done = c.in-Done.ensures in
    let drawn = c.purge.new.draw.session in
    stands_then s _ st done.fits.1 refl refl refl done.fits.0 done.fits.2 done.clears.ran.given refl
    (subst (λ xs. AreSessions s.rows.workers s.base xs (state u)) (sym (c.set_session.ensures ∙ ap (λ x. set s.sessions.items c.args.worker x) (c.drew-drew.ensures ∙ ap (λ x. drawn_session x drawn) e)))
    (cleared_after s.seat.view u s.rows.workers s.base c.args.worker c.args.leaf c.args.most s.sessions.items drawn _ _ c.requires.worker.0 c.requires.worker.1 st.sessions done.clears done.last))

pub returns-in-Spared-clause-stands : goal.returns-in-Spared-clause-stands
returns-in-Spared-clause-stands c =
    let st = c.requires.stands in
    let s = c.args.self.now in
    let u = c.purge.new.seat.view in
    let o = c.in-Spared.ensures in
    let same = missed_core 61 s.seat.view u o.clears.0 in
    stands_then s _ st o.fits.1 refl refl refl o.fits.0 o.fits.2 same.0 refl
    (sessions_core s.rows.workers s.base s.sessions.items (state s.seat.view) (state u) same.1 st.sessions)

pub returns-in-Refused-clause-stands : goal.returns-in-Refused-clause-stands
returns-in-Refused-clause-stands c =
    let st = c.requires.stands in
    let s = c.args.self.now in
    let u = c.purge.new.seat.view in
    let o = c.in-Refused.ensures in
    let same = declined_core c.args.worker c.args.leaf s.seat.view u _ _ _ c.in-Refused.outcome o.clears in
    stands_then s _ st o.fits.1 refl refl refl o.fits.0 o.fits.2 same.0 refl
    (sessions_core s.rows.workers s.base s.sessions.items (state s.seat.view) (state u) same.1 st.sessions)
