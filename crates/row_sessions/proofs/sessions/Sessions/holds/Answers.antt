use Rattle.std.proofs.Common.{refl, ◌∙◌}
use Rattle.btree_descent.specs.rows_trait.Views.{state}
use Rattle.row_sessions.proofs.Standings.{stands_then, sessions_core}
use Rattle.row_sessions.proofs.Locks.{none_core}
use Rattle.row_sessions.proofs.sessions.Sessions.holds.Goals as goal

pub returns-in-Ok-clause-stands : goal.returns-in-Ok-clause-stands
returns-in-Ok-clause-stands c =
    let st = c.requires.stands in
    let s = c.args.self.now in
    let u = c.holds.new.seat.view in
    let fits = c.in-Ok.ensures.fits in
    let same = none_core s.seat.view u c.in-Ok.ensures.ok.ran in
    stands_then s _ st fits.1 refl refl refl fits.0 (fits.2 ∙ st.held) same.0 refl
    (sessions_core s.rows.workers s.base s.sessions.items (state s.seat.view) (state u) same.1 st.sessions)
