use Rattle.std.proofs.Common.{refl, ◌∙◌}
use Rattle.btree_descent.specs.rows_trait.Views.{state}
use Rattle.row_sessions.proofs.Standings.{stands_then, sessions_core}
use Rattle.row_sessions.proofs.Reshaping.{missed_core, has_below}
use Rattle.row_sessions.proofs.Locks.{none_core}
use Rattle.row_sessions.proofs.sessions.Sessions.full_run.Goals as goal

pub returns-in-Ok-clause-stands : goal.returns-in-Ok-clause-stands
returns-in-Ok-clause-stands c =
    let st = c.requires.stands in
    let s = c.args.self.now in
    let u = c.full_run.new.seat.view in
    let o = c.full_run.ensures in
    let same = none_core s.seat.view u c.in-Ok.ensures.run.ran in
    stands_then s _ st o.fits.1 refl refl refl o.fits.0 (o.held ∙ st.held) same.0 refl
    (sessions_core s.rows.workers s.base s.sessions.items (state s.seat.view) (state u) same.1 st.sessions)

pub returns-in-Err-clause-stands : goal.returns-in-Err-clause-stands
returns-in-Err-clause-stands c =
    let st = c.requires.stands in
    let s = c.args.self.now in
    let u = c.full_run.new.seat.view in
    let o = c.full_run.ensures in
    let same = missed_core 8 s.seat.view u c.in-Err.ensures.err in
    stands_then s _ st o.fits.1 refl refl refl o.fits.0 (o.held ∙ st.held) same.0 refl
    (sessions_core s.rows.workers s.base s.sessions.items (state s.seat.view) (state u) same.1 st.sessions)

pub full_run-requires-clause-within : goal.full_run-requires-clause-within
full_run-requires-clause-within c = has_below c.args.self.now.frames c.args.path.now (λ k lt. c.are_frames.ensures c.if-not-are_frames.false k lt)
