use Rattle.std.proofs.Common.{refl, ◌∙◌, ◌%◌, ◌≡◌, true, ap, sym, subst}
use Rattle.btree_descent.specs.core_state.Needs.{holds_row}
use Rattle.btree_descent.specs.rows_trait.Views.{state}
use Rattle.row_sessions.specs.declared.session.Session.{Session}
use Rattle.row_sessions.specs.Standing.{AreSessions, session_at, touched_session}
use Rattle.row_sessions.proofs.Standings.{stands_then, sessions_core}
use Rattle.row_sessions.proofs.Walked.{listed_at, walked_after, unwalked_core}
use Rattle.row_sessions.proofs.sessions.Sessions.walk.Goals as goal

pub next-requires-clause-may : goal.next-requires-clause-may
next-requires-clause-may c =
    let st = c.requires.stands in
    let s = c.args.self.now in
    let e = c.session_of-session.ensures in
    let a = st.sessions.each c.args.worker c.requires.worker.1 in record {
      is_open = a.is_open ∙ (ap (λ (x : Session). x.is_open) (sym e) ∙ c.if-not-session.false);
      held = λ k l.
          let at = listed_at k c.args.keys.now l in
          (λ i. holds_row ((state s.seat.view).core.row (sym at.2 i % st.sized.rows i)) c.args.worker) ∙ c.requires.held at.0 at.1;
    }

pub returns-in-Pair-clause-stands : goal.returns-in-Pair-clause-stands
returns-in-Pair-clause-stands c =
    let st = c.requires.stands in
    let s = c.args.self.now in
    let u = c.next.new.seat.view in
    let e = c.session_of-session.ensures in
    let o = c.in-Pair.ensures in
    stands_then s _ st o.fits.1 refl refl refl o.fits.0 (o.fits.2 ∙ st.held) o.walked.ran.given refl
    (subst (λ xs. AreSessions s.rows.workers s.base xs (state u)) (sym (c.set_session.ensures ∙ ap (λ x. Rattle.std.proofs.Common.set s.sessions.items c.args.worker x) (c.touched-met.ensures ∙ ap (λ x. touched_session c.args.worker x c.in-Pair.stamp.number c.in-Pair.stamp.log) e)))
    (walked_after s.seat.view u s.rows.workers s.base c.args.worker c.args.key _ s.sessions.items _ c.in-Pair.stamp c.requires.worker.0 c.requires.worker.1 st.sessions o.walked))

pub returns-in-Gap-clause-stands : goal.returns-in-Gap-clause-stands
returns-in-Gap-clause-stands c =
    let st = c.requires.stands in
    let s = c.args.self.now in
    let u = c.next.new.seat.view in
    let e = c.session_of-session.ensures in
    let o = c.in-Gap.ensures in
    stands_then s _ st o.fits.1 refl refl refl o.fits.0 (o.fits.2 ∙ st.held) o.walked.0.ran.given refl
    (subst (λ xs. AreSessions s.rows.workers s.base xs (state u)) (sym (c.set_session-in-Gap.ensures ∙ ap (λ x. Rattle.std.proofs.Common.set s.sessions.items c.args.worker x) (c.touched-met-in-Gap.ensures ∙ ap (λ x. touched_session c.args.worker x c.in-Gap.stamp.number c.in-Gap.stamp.log) e)))
    (walked_after s.seat.view u s.rows.workers s.base c.args.worker c.args.key _ s.sessions.items _ c.in-Gap.stamp c.requires.worker.0 c.requires.worker.1 st.sessions o.walked.0))

pub returns-in_default : goal.returns-in_default
returns-in_default c =
    let st = c.requires.stands in
    let s = c.args.self.now in
    let u = c.next.new.seat.view in
    let o = c.next.ensures in
    let same = unwalked_core c.args.worker c.args.key _ s.seat.view u c.next.result c.in_default.not-Pair c.in_default.not-Gap o.walked in record {
      stands = stands_then s _ st o.fits.1 refl refl refl o.fits.0 (o.fits.2 ∙ st.held) same.0 refl
          (sessions_core s.rows.workers s.base s.sessions.items (state s.seat.view) (state u) same.1 st.sessions);
      same = ap (λ z. z.sizes.workers) o.fits.1;
    }
