use Rattle.std.proofs.Common.{refl, ◌∙◌, sym, ap, subst, set}
use Rattle.btree_descent.specs.rows_trait.Views.{state}
use Rattle.row_sessions.specs.Standing.{AreSessions, drawn_session}
use Rattle.row_sessions.proofs.Standings.{stands_then, sessions_core}
use Rattle.row_sessions.proofs.Reshaping.{unjoined_core, joined_after}
use Rattle.row_sessions.proofs.sessions.Sessions.join.Goals as goal

pub returns-in-Done-clause-stands : goal.returns-in-Done-clause-stands
returns-in-Done-clause-stands c =
    let st = c.requires.stands in
    let s = c.args.self.now in
    let u = c.join.new.seat.view in
    let e = c.session_of-session.ensures in
    let done = c.in-Done.ensures in
    let drawn = c.join.new.draw.session in
    stands_then s _ st done.fits.1 refl refl refl done.fits.0 done.fits.2 done.merged.change.ran.given refl
    (subst (λ xs. AreSessions s.rows.workers s.base xs (state u)) (sym (c.set_session.ensures ∙ ap (λ x. set s.sessions.items c.args.worker x) (c.drew-drew.ensures ∙ ap (λ x. drawn_session x drawn) e)))
    (joined_after s.seat.view u s.rows.workers s.base c.args.worker c.args.left c.args.right c.args.parent s.sessions.items drawn _ _ c.requires.worker.0 c.requires.worker.1 st.sessions done.merged done.last))

pub returns-in_default : goal.returns-in_default
returns-in_default c =
    let st = c.requires.stands in
    let s = c.args.self.now in
    let u = c.join.new.seat.view in
    let o = c.join.ensures in
    let same = unjoined_core c.args.worker c.args.left c.args.right c.args.parent s.seat.view u _ _ _ c.join.result c.in_default.not-Done o.merged in record {
      stands = stands_then s _ st o.fits.1 refl refl refl o.fits.0 o.fits.2 same.0 refl
          (sessions_core s.rows.workers s.base s.sessions.items (state s.seat.view) (state u) same.1 st.sessions);
      same = ap (λ z. z.sizes.workers) o.fits.1;
    }
