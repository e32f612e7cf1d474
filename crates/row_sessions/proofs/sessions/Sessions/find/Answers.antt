use Rattle.std.proofs.Common.{refl, ◌∙◌}
use Rattle.btree_descent.specs.rows_trait.Views.{state}
use Rattle.row_sessions.proofs.Standings.{stands_then, sessions_core}
use Rattle.row_sessions.proofs.Calls.{went_core}
use Rattle.row_sessions.proofs.sessions.Sessions.find.Goals as goal

pub returns-clause-stands : goal.returns-clause-stands
returns-clause-stands c =
    let st = c.requires.stands in
    let went = went_core c.args.key c.args.self.now.seat.view c.find.new.seat.view c.find.result st.sessions.idle c.find.ensures.went in
    stands_then c.args.self.now _ st c.find.ensures.fits.1 refl refl refl c.find.ensures.fits.0 (c.find.ensures.fits.2 ∙ st.held) went.0 refl
    (sessions_core c.args.self.now.rows.workers c.args.self.now.base c.args.self.now.sessions.items (state c.args.self.now.seat.view) (state c.find.new.seat.view) went.1 st.sessions)
