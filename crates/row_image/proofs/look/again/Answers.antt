use Rattle.btree_descent.specs.rows_trait.Views.{may}
use Rattle.btree_descent.specs.version_latch.Named.{checked}
use Rattle.btree_descent.proofs.version_latch.Naming.{checked_silent}
use Rattle.btree_descent.proofs.version_latch.Keeping.{looked_latest}
use Rattle.row_image.proofs.Watching.{watched_check, may_before}
use Rattle.row_image.proofs.Refusals.{check_refused}
use Rattle.row_image.proofs.look.again.Goals as goal

pub check-requires-clause-event : goal.check-requires-clause-event
check-requires-clause-event g c n =
    let v = g.R.Rows.view c.args.seat.now in
    checked_silent (may (g.R.Rows.shape c.args.rows.now).alone v) v.given c.args.actor c.args.glimpse.now.version n c.requires.actor

pub returns-in-Ok-clause-fits : goal.returns-in-Ok-clause-fits
returns-in-Ok-clause-fits g c = (c.in-Ok.ensures.fits.0, c.in-Ok.ensures.fits.1, c.in-Ok.ensures.ok.held)

pub returns-in-Err-clause-fits : goal.returns-in-Err-clause-fits
returns-in-Err-clause-fits g c = let e = c.in-Err.ensures.err in (c.in-Err.ensures.fits.0, c.in-Err.ensures.fits.1, e.3.held)

pub returns-in-Ok-clause-ok : goal.returns-in-Ok-clause-ok
returns-in-Ok-clause-ok g c =
    let y = g.R.Rows.shape c.args.rows.now in
    let v = g.R.Rows.view c.args.seat.now in
    let w = g.R.Rows.view c.check.new.seat in
    let row = c.args.glimpse.now.row in
    let version = c.args.glimpse.now.version in record {
      watched = watched_check c.args.actor c.in-Ok.ensures.ok;
      shown = c.in-Ok.ensures.valid;
      still = c.in-Ok.ensures.still;
      last = looked_latest y row version (checked c.args.actor version) v w c.in-Ok.ensures.ok;
    }

pub returns-in-Err-clause-err : goal.returns-in-Err-clause-err
returns-in-Err-clause-err g c u k found last =
    let e = c.in-Err.ensures.err in
    let alone = (g.R.Rows.shape c.args.rows.now).alone in
    check_refused c.args.actor c.in-Err.moved (may_before alone u (g.R.Rows.view c.args.seat.now) c.args.actor k c.requires.actor) k found last e.1 e.2 e.3 c.in-Err.ensures.cause
