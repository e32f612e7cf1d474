use Rattle.std.proofs.Common.{refl}
use Rattle.row_changes.proofs.session_state.HoldLemmas.{holds_as}
use Rattle.row_ends.proofs.BeginLemmas.{looked_holds}
use Rattle.row_tidying.proofs.FloorLemmas.{few_logs, floor_is, is_floor}
use Rattle.row_tidying.proofs.floors.floor_of.Goals as goal

pub least_flushed-requires-clause-count : goal.least_flushed-requires-clause-count
least_flushed-requires-clause-count g c = few_logs c.requires.holds

pub least_flushed-requires-clause-few : goal.least_flushed-requires-clause-few
least_flushed-requires-clause-few g c = c.requires.holds.rows.most

pub returns-clause-holds : goal.returns-clause-holds
returns-clause-holds g c =
    let z = g.R.Rows.shape c.args.rows.now in
    let w = g.R.Rows.view c.least_flushed.new.seat in
    let x = c.args.session.now in
    holds_as z (g.R.Rows.shape c.least_flushed.new.rows) w x x c.args.log.now c.least_flushed.ensures.fits.1 refl
    (looked_holds z (g.R.Rows.view c.args.seat.now) w x c.args.log.now (c.least_flushed.ensures.seen c.requires.holds.alone) c.requires.holds)

pub returns-clause-looked : goal.returns-clause-looked
returns-clause-looked g c = c.least_flushed.ensures.seen c.requires.holds.alone

pub returns-clause-floor : goal.returns-clause-floor
returns-clause-floor g c =
    let z = g.R.Rows.shape c.args.rows.now in
    is_floor z (g.R.Rows.shape c.least_flushed.new.rows) (g.R.Rows.view c.args.seat.now) (g.R.Rows.view c.least_flushed.new.seat) c.args.session.now c.args.log.now c.requires.holds c.requires.small
    (c.least_flushed.ensures.seen c.requires.holds.alone) c.least_flushed.result (c.least_flushed.ensures.least c.requires.holds.alone)
