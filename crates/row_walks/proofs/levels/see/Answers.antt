use Rattle.row_changes.proofs.session_state.Moments.{acts}
use Rattle.row_tidying.proofs.MadeLemmas.{framed}
use Rattle.row_walks.proofs.SeeLemmas.{holds_looked, none_there, not_bare}
use Rattle.row_walks.proofs.levels.see.Goals as goal

pub sight-requires-clause-row : goal.sight-requires-clause-row
sight-requires-clause-row g c = framed (g.R.Rows.shape c.args.rows.now) (g.R.Rows.view c.args.seat.now) c.args.session.now c.args.log.now c.requires.holds c.requires.hot.0 c.args.frame c.requires.hot.1

pub sight-requires-clause-actor : goal.sight-requires-clause-actor
sight-requires-clause-actor g c = acts (g.R.Rows.shape c.args.rows.now) (g.R.Rows.view c.args.seat.now) c.args.session.now.own c.requires.holds.alone

pub unreachable-requires : goal.unreachable-requires
unreachable-requires g c =
    not_bare (g.R.Rows.shape c.args.rows.now) (g.R.Rows.view c.args.seat.now) (g.R.Rows.view c.sight.new.seat) c.args.session.now c.args.log.now c.requires.holds c.in-Ok-None.ensures.kept.ran c.in-Ok-None.ensures.kept.held
    c.requires.hot.0 c.args.frame c.requires.hot.1
    (none_there (g.R.Rows.shape c.args.rows.now).alone c.args.frame (g.R.Rows.view c.args.seat.now) (g.R.Rows.view c.sight.new.seat) c.in-Ok-None.field-0 c.in-Ok-None.field-0-is c.in-Ok-None.ensures.answer)

pub returns-clause-holds : goal.returns-clause-holds
returns-clause-holds g c =
    holds_looked (g.R.Rows.shape c.args.rows.now) (g.R.Rows.view c.args.seat.now) (g.R.Rows.view c.sight.new.seat) c.args.session.now c.args.log.now c.requires.holds c.in-Ok-Some.ensures.kept.ran c.in-Ok-Some.ensures.kept.held
    (g.R.Rows.shape c.sight.new.rows) c.in-Ok-Some.ensures.fits.1
