use Rattle.std.proofs.Common.{refl}
use Rattle.row_changes.proofs.TakeLemmas.{already, holds_again, holds_still, spent, takes_again}
use Rattle.session_state.proofs.HoldLemmas.{holds_as}
use Rattle.row_changes.proofs.taking.take_again.Goals as goal

pub lock_again-requires-clause-has : goal.lock_again-requires-clause-has
lock_again-requires-clause-has g c =
    already (g.R.Rows.shape c.args.rows.now) (g.R.Rows.view c.args.seat.now) c.args.session.now c.args.log.now c.requires.holds c.requires.only c.args.row c.requires.has

pub returns-in-Ok-clause-holds : goal.returns-in-Ok-clause-holds
returns-in-Ok-clause-holds g c =
    let z = g.R.Rows.shape c.args.rows.now in
    let w = g.R.Rows.view c.lock_again.new.seat in
    let x = c.args.session.now in
    holds_as z (g.R.Rows.shape c.lock_again.new.rows) w x x c.args.log.now c.in-Ok.ensures.fits.1 refl
    (holds_again z (g.R.Rows.view c.args.seat.now) x c.args.log.now c.requires.holds c.requires.only c.args.row c.requires.has w c.requires.open_is c.requires.row c.in-Ok.ensures.ok c.in-Ok.ensures.fits.2)

pub returns-in-Ok-clause-taken : goal.returns-in-Ok-clause-taken
returns-in-Ok-clause-taken g c =
    takes_again (g.R.Rows.shape c.args.rows.now) (g.R.Rows.view c.args.seat.now) c.args.session.now c.args.log.now c.requires.holds c.requires.only c.args.row c.requires.has (g.R.Rows.view c.lock_again.new.seat) c.requires.open_is c.requires.row c.in-Ok.ensures.ok c.in-Ok.ensures.fits.2

pub returns-in-Err-clause-holds : goal.returns-in-Err-clause-holds
returns-in-Err-clause-holds g c =
    let z = g.R.Rows.shape c.args.rows.now in
    let v = g.R.Rows.view c.args.seat.now in
    let w = g.R.Rows.view c.lock_again.new.seat in
    let x = c.args.session.now in
    let s = spent z v w c.requires.holds.alone c.every_low.ensures c.versions.ensures.low _ _ c.in-Err.ensures.spent in
    holds_as z (g.R.Rows.shape c.lock_again.new.rows) w x x c.args.log.now c.in-Err.ensures.fits.1 refl (holds_still z v w x c.args.log.now s.given s.seen c.in-Err.ensures.fits.2 c.requires.holds)

pub returns-in-Err-clause-spent : goal.returns-in-Err-clause-spent
returns-in-Err-clause-spent g c =
    (refl, spent (g.R.Rows.shape c.args.rows.now) (g.R.Rows.view c.args.seat.now) (g.R.Rows.view c.lock_again.new.seat) c.requires.holds.alone c.every_low.ensures c.versions.ensures.low _ _ c.in-Err.ensures.spent)
