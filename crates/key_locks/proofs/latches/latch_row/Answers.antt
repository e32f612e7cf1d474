use Rattle.std.proofs.Common.{◌∙◌, ◌<◌, ℕ, [], ◌∷◌, refl, sym, ap, subst, false, arith}
use Rattle.lean_proto.specs.rows_trait.declared.view.View.{View}
use Rattle.lean_proto.specs.rows_trait.Views.{Shape, may, hold, holds}
use Rattle.lean_proto.specs.rows_trait.Layout.{rows_of}
use Rattle.lean_proto.specs.rows_trait.Causes.{HasFound}
use Rattle.lean_proto.specs.rows_trait.Turns.{Taken, Ran}
use Rattle.lean_proto.proofs.rows_trait.Runs.{ran_append}
use Rattle.lean_proto.specs.version_latch.declared.glimpse.Unheld.{Unheld}
use Rattle.lean_proto.specs.version_latch.Unheld.{NotHeld}
use Rattle.lean_proto.specs.version_latch.Named.{missed, checked}
use Rattle.lean_proto.proofs.version_latch.Naming.{missed_silent, checked_silent}
use Rattle.lean_proto.proofs.version_latch.Keeping.{may_ran, may_shape, looked_latest}
use Rattle.key_locks.proofs.Taking.{taken_by, looked_ran, checked_ran, moved_after}
use Rattle.key_locks.proofs.latches.latch_row.Goals as goal

pub start-requires-clause-event : goal.start-requires-clause-event
start-requires-clause-event g c n =
    let v = g.R.Rows.view c.args.seat.now in missed_silent (may (g.R.Rows.shape c.args.rows.now).alone v) v.given c.args.worker n c.requires.actor

pub returns-in-Err-clause-err : goal.returns-in-Err-clause-err
returns-in-Err-clause-err g c =
    let e = c.in-Err.ensures.err in
    taken_by (g.R.Rows.shape c.args.rows.now) c.args.worker c.args.row (g.R.Rows.view c.args.seat.now) (g.R.Rows.view c.start.new.seat) c.in-Err.latched c.requires.actor e.0 e.1 e.2 c.in-Err.ensures.cause

pub upgrade-requires-clause-event : goal.upgrade-requires-clause-event
upgrade-requires-clause-event g c n =
    let z = g.R.Rows.shape c.args.rows.now in
    let y = g.R.Rows.shape c.start.new.rows in
    let v = g.R.Rows.view c.args.seat.now in
    let u = g.R.Rows.view c.start.new.seat in
    let o = c.in-Ok.ensures.ok in
    let ran = looked_ran z c.args.worker c.args.row c.in-Ok.glimpse.version v u o.1 o.3 in
    checked_silent (may y.alone u) u.given c.args.worker c.in-Ok.glimpse.version n (may_shape y z u c.args.worker c.in-Ok.ensures.fits.1 (may_ran z.alone v u [] c.args.worker ran c.requires.actor))

pub returns-in-Ok-upgrade-clause-ok : goal.returns-in-Ok-upgrade-clause-ok
returns-in-Ok-upgrade-clause-ok g c =
    let z = g.R.Rows.shape c.args.rows.now in
    let v = g.R.Rows.view c.args.seat.now in
    let u = g.R.Rows.view c.start.new.seat in
    let w = g.R.Rows.view c.upgrade.new.seat in
    let o = c.in-Ok.ensures.ok in
    let n = c.in-Ok.glimpse.version in
    let Q : Shape × ℕ → Type 0 = λ s. Taken s.0 s.1 n (checked c.args.worker n) u w in
    let t = subst Q (λ j. (c.in-Ok.ensures.fits.1 j, o.0 j)) c.in-Ok-upgrade.ensures.ok.1 in record {
      ran = ran_append z.alone v [] u [] w (looked_ran z c.args.worker c.args.row n v u o.1 o.3) (checked_ran z c.args.worker n u w t.goes);
      version = n;
      was = t.was;
      held = t.held ∙ ap (λ hs. hold c.args.row n t.was t.was false ∷ hs) o.3.held;
      size = t.size;
      free = ap (λ hs. holds hs c.args.row) (sym o.3.held) ∙ t.fresh;
    }

pub returns-in-Err-Moved-clause-err : goal.returns-in-Err-Moved-clause-err
returns-in-Err-Moved-clause-err g c =
    let z = g.R.Rows.shape c.args.rows.now in
    let v = g.R.Rows.view c.args.seat.now in
    let u = g.R.Rows.view c.start.new.seat in
    let w = g.R.Rows.view c.upgrade.new.seat in
    let o = c.in-Ok.ensures.ok in
    let n = c.in-Ok.glimpse.version in
    let ran = looked_ran z c.args.worker c.args.row n v u o.1 o.3 in
    let Q : Shape × ℕ × Unheld → Type 0 = λ s. NotHeld s.0 s.1 n (checked c.args.worker n) u s.2 w in
    let e = subst Q (λ j. (c.in-Ok.ensures.fits.1 j, o.0 j, c.in-Err-Moved.field-0-is j)) c.in-Err-Moved.ensures.err in
    moved_after z c.args.worker c.args.row n v u w c.in-Err-Moved.moved ran c.in-Ok.ensures.since.1 (may_ran z.alone v u [] c.args.worker ran c.requires.actor) e

pub returns-in-Err-Moved-clause-quiet : goal.returns-in-Err-Moved-clause-quiet
returns-in-Err-Moved-clause-quiet g c alone free =
    let z = g.R.Rows.shape c.args.rows.now in
    let u = g.R.Rows.view c.start.new.seat in
    let w = g.R.Rows.view c.upgrade.new.seat in
    let o = c.in-Ok.ensures.ok in
    let n = c.in-Ok.glimpse.version in
    let Q : Shape × ℕ × Unheld → Type 0 = λ s. NotHeld s.0 s.1 n (checked c.args.worker n) u s.2 w in
    let e = subst Q (λ j. (c.in-Ok.ensures.fits.1 j, o.0 j, c.in-Err-Moved.field-0-is j)) c.in-Err-Moved.ensures.err in
    e.2.other (e.2.looked.steady alone n (looked_latest z c.args.row n (missed c.args.worker) (g.R.Rows.view c.args.seat.now) u o.3))

pub returns-in-Err-RowSpent-clause-err : goal.returns-in-Err-RowSpent-clause-err
returns-in-Err-RowSpent-clause-err g c =
    let z = g.R.Rows.shape c.args.rows.now in
    let v = g.R.Rows.view c.args.seat.now in
    let u = g.R.Rows.view c.start.new.seat in
    let w = g.R.Rows.view c.upgrade.new.seat in
    let o = c.in-Ok.ensures.ok in
    let n = c.in-Ok.glimpse.version in
    let Q : Unheld → Type 0 = λ s. NotHeld (g.R.Rows.shape c.start.new.rows) c.in-Ok.glimpse.row n (checked c.args.worker n) u s w in
    let e = subst Q c.in-Err-RowSpent.field-0-is c.in-Err-RowSpent.ensures.err in record {
      at = refl;
      ran = subst (λ (x : View). Ran z.alone v [] x) (sym e.1) (looked_ran z c.args.worker c.args.row n v u o.1 o.3);
      version = n;
      last = e.0;
      found = subst (λ (x : View). HasFound c.args.row n v x) (sym e.1) c.in-Ok.ensures.since.1;
    }

pub start-requires-clause-fits : goal.start-requires-clause-fits
start-requires-clause-fits g c = c.requires.fits

pub start-requires-clause-row : goal.start-requires-clause-row
start-requires-clause-row g c = c.requires.row

pub returns-in-Err-clause-fits : goal.returns-in-Err-clause-fits
returns-in-Err-clause-fits g c = c.in-Err.ensures.fits

pub returns-in-Err-clause-same : goal.returns-in-Err-clause-same
returns-in-Err-clause-same g c = c.in-Err.ensures.err.2.held

pub returns-in-Err-clause-quiet : goal.returns-in-Err-clause-quiet
returns-in-Err-clause-quiet g c alone free = let even = c.in-Err.ensures.err.2.free alone free in let odd = c.in-Err.ensures.err.1 in omega arith

pub upgrade-requires-clause-fits : goal.upgrade-requires-clause-fits
upgrade-requires-clause-fits g c = c.in-Ok.ensures.fits.0

pub upgrade-requires-clause-row : goal.upgrade-requires-clause-row
upgrade-requires-clause-row g c =
    let Q : Shape × ℕ → Type 0 = λ s. s.1 < rows_of s.0.sizes in
    let o = c.in-Ok.ensures.ok in
    let same = c.in-Ok.ensures.fits.1 in
    subst Q (λ j. (sym same j, sym o.0 j)) c.requires.row

pub upgrade-requires-clause-version : goal.upgrade-requires-clause-version
upgrade-requires-clause-version g c = c.in-Ok.ensures.ok.1

pub returns-in-Ok-upgrade-clause-fits : goal.returns-in-Ok-upgrade-clause-fits
returns-in-Ok-upgrade-clause-fits g c = (c.in-Ok-upgrade.ensures.fits.0, c.in-Ok-upgrade.ensures.fits.1 ∙ c.in-Ok.ensures.fits.1)

pub returns-in-Err-Moved-clause-fits : goal.returns-in-Err-Moved-clause-fits
returns-in-Err-Moved-clause-fits g c = (c.in-Err-Moved.ensures.fits.0, c.in-Err-Moved.ensures.fits.1 ∙ c.in-Ok.ensures.fits.1)

pub returns-in-Err-Moved-clause-same : goal.returns-in-Err-Moved-clause-same
returns-in-Err-Moved-clause-same g c =
    let z = g.R.Rows.shape c.args.rows.now in
    let u = g.R.Rows.view c.start.new.seat in
    let w = g.R.Rows.view c.upgrade.new.seat in
    let o = c.in-Ok.ensures.ok in
    let n = c.in-Ok.glimpse.version in
    let Q : Shape × ℕ × Unheld → Type 0 = λ s. NotHeld s.0 s.1 n (checked c.args.worker n) u s.2 w in
    let e = subst Q (λ j. (c.in-Ok.ensures.fits.1 j, o.0 j, c.in-Err-Moved.field-0-is j)) c.in-Err-Moved.ensures.err in
    e.2.looked.held ∙ o.3.held

pub returns-in-Err-RowSpent-clause-fits : goal.returns-in-Err-RowSpent-clause-fits
returns-in-Err-RowSpent-clause-fits g c = (c.in-Err-RowSpent.ensures.fits.0, c.in-Err-RowSpent.ensures.fits.1 ∙ c.in-Ok.ensures.fits.1)

pub returns-in-Err-RowSpent-clause-same : goal.returns-in-Err-RowSpent-clause-same
returns-in-Err-RowSpent-clause-same g c =
    let u = g.R.Rows.view c.start.new.seat in
    let w = g.R.Rows.view c.upgrade.new.seat in
    let n = c.in-Ok.glimpse.version in
    let Q : Unheld → Type 0 = λ s. NotHeld (g.R.Rows.shape c.start.new.rows) c.in-Ok.glimpse.row n (checked c.args.worker n) u s w in
    let e = subst Q c.in-Err-RowSpent.field-0-is c.in-Err-RowSpent.ensures.err in
    ap (λ (x : View). x.held) e.1 ∙ c.in-Ok.ensures.ok.3.held
