use Rattle.std.proofs.Common.{◌∙◌, ℕ, [], sym, subst}
use Rattle.rows_trait.specs.Causes.{HasFound}
use Rattle.rows_trait.specs.Views.{Shape, may}
use Rattle.rows_trait.specs.Turns.{Taken}
use Rattle.lean_proto.specs.version_latch.Named.{missed, checked}
use Rattle.lean_proto.specs.version_latch.Unheld.{NotHeld}
use Rattle.lean_proto.specs.version_latch.declared.glimpse.Unheld.TheVariants.{Moved, RowSpent}
use Rattle.lean_proto.proofs.version_latch.Naming.{missed_silent, missed_even, checked_silent}
use Rattle.lean_proto.proofs.version_latch.Keeping.{looked_ran, may_ran, may_shape}
use Rattle.held_rows.proofs.Taking.{latched_refused, latched_quiet, took_all, moved_refused, moved_quiet, spent_refused}
use Rattle.held_rows.proofs.latching.latch.Goals as goal

pub start-requires-clause-event : goal.start-requires-clause-event
start-requires-clause-event g c n =
    let v = g.R.Rows.view c.args.seat.now in
    missed_silent (may (g.R.Rows.shape c.args.rows.now).alone v) v.given c.args.worker n c.requires.actor

pub returns-in-Err-clause-err : goal.returns-in-Err-clause-err
returns-in-Err-clause-err g c = let e = c.in-Err.ensures.err in latched_refused c.args.worker c.requires.actor e.1 e.2

pub upgrade-requires-clause-event : goal.upgrade-requires-clause-event
upgrade-requires-clause-event g c n =
    let y = g.R.Rows.shape c.args.rows.now in
    let v = g.R.Rows.view c.args.seat.now in
    let w = g.R.Rows.view c.start.new.seat in
    let o = c.in-Ok.ensures.ok in
    let ran = looked_ran y c.args.row c.in-Ok.glimpse.version (missed c.args.worker) v w [] o.3 (missed_even c.args.worker c.in-Ok.glimpse.version o.1) tt in
    checked_silent (may (g.R.Rows.shape c.start.new.rows).alone w) w.given c.args.worker c.in-Ok.glimpse.version n (may_shape (g.R.Rows.shape c.start.new.rows) y w c.args.worker c.in-Ok.ensures.fits.1 (may_ran y.alone v w [] c.args.worker ran c.requires.actor))

pub returns-in-Ok-upgrade-clause-ok : goal.returns-in-Ok-upgrade-clause-ok
returns-in-Ok-upgrade-clause-ok g c =
    let u = g.R.Rows.view c.start.new.seat in
    let w = g.R.Rows.view c.upgrade.new.seat in
    let o = c.in-Ok.ensures.ok in
    let t = c.in-Ok-upgrade.ensures.ok in
    let version = c.in-Ok.glimpse.version in
    let taken = subst (λ (q : Shape × ℕ). Taken q.0 q.1 version (checked c.args.worker version) u w) (λ i. (c.in-Ok.ensures.fits.1 i, o.0 i)) t.1 in
    (t.0 ∙ o.0, took_all c.args.worker o.1 o.3 taken)

pub returns-in-Err-Moved-clause-err : goal.returns-in-Err-Moved-clause-err
returns-in-Err-Moved-clause-err g c =
    let u = g.R.Rows.view c.start.new.seat in
    let w = g.R.Rows.view c.upgrade.new.seat in
    let o = c.in-Ok.ensures.ok in
    let version = c.in-Ok.glimpse.version in
    let m = c.in-Err-Moved.moved in
    let e = subst (λ q. NotHeld (g.R.Rows.shape c.start.new.rows) c.in-Ok.glimpse.row version (checked c.args.worker version) u q w) c.in-Err-Moved.field-0-is c.in-Err-Moved.ensures.err in
    moved_refused c.args.worker c.requires.actor o.1 o.3 (subst (λ (q : Shape × ℕ). NotHeld q.0 q.1 version (checked c.args.worker version) u (Moved m) w) (λ i. (c.in-Ok.ensures.fits.1 i, o.0 i)) e)

pub returns-in-Err-clause-quiet : goal.returns-in-Err-clause-quiet
returns-in-Err-clause-quiet g c alone free = let e = c.in-Err.ensures.err in latched_quiet c.args.worker e.1 e.2 alone free

pub returns-in-Err-Moved-clause-quiet : goal.returns-in-Err-Moved-clause-quiet
returns-in-Err-Moved-clause-quiet g c alone free =
    let u = g.R.Rows.view c.start.new.seat in
    let w = g.R.Rows.view c.upgrade.new.seat in
    let o = c.in-Ok.ensures.ok in
    let version = c.in-Ok.glimpse.version in
    let m = c.in-Err-Moved.moved in
    let e = subst (λ q. NotHeld (g.R.Rows.shape c.start.new.rows) c.in-Ok.glimpse.row version (checked c.args.worker version) u q w) c.in-Err-Moved.field-0-is c.in-Err-Moved.ensures.err in
    moved_quiet c.args.worker o.3 (subst (λ (q : Shape × ℕ). NotHeld q.0 q.1 version (checked c.args.worker version) u (Moved m) w) (λ i. (c.in-Ok.ensures.fits.1 i, o.0 i)) e) alone

pub returns-in-Err-RowSpent-clause-err : goal.returns-in-Err-RowSpent-clause-err
returns-in-Err-RowSpent-clause-err g c =
    let u = g.R.Rows.view c.start.new.seat in
    let w = g.R.Rows.view c.upgrade.new.seat in
    let o = c.in-Ok.ensures.ok in
    let version = c.in-Ok.glimpse.version in
    let e = subst (λ q. NotHeld (g.R.Rows.shape c.start.new.rows) c.in-Ok.glimpse.row version (checked c.args.worker version) u q w) c.in-Err-RowSpent.field-0-is c.in-Err-RowSpent.ensures.err in
    spent_refused c.args.worker o.1 o.3 (subst (λ (q : Shape × ℕ). NotHeld q.0 q.1 version (checked c.args.worker version) u RowSpent w) (λ i. (c.in-Ok.ensures.fits.1 i, o.0 i)) e)

pub returns-in-Err-clause-cause : goal.returns-in-Err-clause-cause
returns-in-Err-clause-cause g c = (c.in-Err.ensures.err.0, c.in-Err.ensures.cause)

pub returns-in-Err-Moved-clause-cause : goal.returns-in-Err-Moved-clause-cause
returns-in-Err-Moved-clause-cause g c =
    let v = g.R.Rows.view c.args.seat.now in
    let u = g.R.Rows.view c.start.new.seat in
    let w = g.R.Rows.view c.upgrade.new.seat in
    let o = c.in-Ok.ensures.ok in
    let version = c.in-Ok.glimpse.version in
    let e = subst (λ q. NotHeld (g.R.Rows.shape c.start.new.rows) c.in-Ok.glimpse.row version (checked c.args.worker version) u q w) c.in-Err-Moved.field-0-is c.in-Err-Moved.ensures.err in
    (e.0 ∙ o.0, e.3 v (subst (λ q. HasFound q version v u) (sym o.0) c.in-Ok.ensures.since.1))

pub returns-in-Err-RowSpent-clause-cause : goal.returns-in-Err-RowSpent-clause-cause
returns-in-Err-RowSpent-clause-cause g c =
    let v = g.R.Rows.view c.args.seat.now in
    let u = g.R.Rows.view c.start.new.seat in
    let w = g.R.Rows.view c.upgrade.new.seat in
    let version = c.in-Ok.glimpse.version in
    let e = subst (λ q. NotHeld (g.R.Rows.shape c.start.new.rows) c.in-Ok.glimpse.row version (checked c.args.worker version) u q w) c.in-Err-RowSpent.field-0-is c.in-Err-RowSpent.ensures.err in
    (Rattle.std.proofs.Common.refl, (version, e.0, subst (λ x. HasFound c.args.row version v x) (sym e.1) c.in-Ok.ensures.since.1))
