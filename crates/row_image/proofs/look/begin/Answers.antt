use Rattle.btree_descent.specs.rows_trait.Views.{may}
use Rattle.btree_descent.specs.version_latch.Named.{missed}
use Rattle.btree_descent.proofs.version_latch.Naming.{missed_silent}
use Rattle.btree_descent.proofs.version_latch.Keeping.{looked_latest}
use Rattle.row_image.proofs.Watching.{watched_start}
use Rattle.row_image.proofs.Refusals.{start_refused}
use Rattle.row_image.proofs.look.begin.Goals as goal

pub start-requires-clause-event : goal.start-requires-clause-event
start-requires-clause-event g c n =
    let v = g.R.Rows.view c.args.seat.now in
    missed_silent (may (g.R.Rows.shape c.args.rows.now).alone v) v.given c.args.actor n c.requires.actor

pub returns-in-Err-clause-fits : goal.returns-in-Err-clause-fits
returns-in-Err-clause-fits g c = let e = c.in-Err.ensures.err in (c.in-Err.ensures.fits.0, c.in-Err.ensures.fits.1, e.2.held)

pub returns-in-Ok-clause-fits : goal.returns-in-Ok-clause-fits
returns-in-Ok-clause-fits g c = let o = c.in-Ok.ensures.ok in (c.in-Ok.ensures.fits.0, c.in-Ok.ensures.fits.1, o.3.held)

pub returns-in-Err-clause-err : goal.returns-in-Err-clause-err
returns-in-Err-clause-err g c =
    let e = c.in-Err.ensures.err in
    start_refused c.args.actor c.in-Err.latched c.requires.actor e.1 e.2 c.in-Err.ensures.cause

pub returns-in-Ok-clause-ok : goal.returns-in-Ok-clause-ok
returns-in-Ok-clause-ok g c =
    let y = g.R.Rows.shape c.args.rows.now in
    let v = g.R.Rows.view c.args.seat.now in
    let w = g.R.Rows.view c.start.new.seat in
    let o = c.in-Ok.ensures.ok in
    let version = c.in-Ok.glimpse.version in (
      o.0,
      record {
        watched = watched_start c.args.actor o.1 o.3;
        free = o.1;
        has = o.2;
        found = c.in-Ok.ensures.since.1;
        since = c.in-Ok.ensures.since.0;
        last = looked_latest y c.args.row version (missed c.args.actor) v w o.3;
      },
    )
