use Rattle.std.proofs.Common.{◌∙◌, ℕ, refl, sym, ap, subst}
use Rattle.lean_proto.specs.row_words.declared.event.Event.TheVariants.{Lock}
use Rattle.lean_proto.specs.rows_trait.Inside.{first_of}
use Rattle.lean_proto.specs.rows_trait.Turns.{Looked}
use Rattle.lean_proto.specs.rows_trait.Views.{Shape, may}
use Rattle.lean_proto.specs.version_latch.declared.glimpse.Unheld.{Unheld}
use Rattle.lean_proto.specs.version_latch.Named.{checked, missed}
use Rattle.lean_proto.specs.version_latch.Unheld.{NotHeld}
use Rattle.lean_proto.proofs.version_latch.Naming.{checked_silent, missed_silent}
use Rattle.key_locks.specs.Rows.{event_mode}
use Rattle.key_locks.proofs.Again.{again_after, again_event, own, steady, taken_as}
use Rattle.key_locks.proofs.locking.lock_again.Goals as goal

pub start-requires-clause-event : goal.start-requires-clause-event
start-requires-clause-event g c n =
    let v = g.R.Rows.view c.args.seat.now in missed_silent (may (g.R.Rows.shape c.args.rows.now).alone v) v.given c.args.worker n (own (g.R.Rows.shape c.args.rows.now) v c.args.worker c.requires.alone)

pub upgrade-requires-clause-event : goal.upgrade-requires-clause-event
upgrade-requires-clause-event g c n =
    let z = g.R.Rows.shape c.start.new.rows in
    let u = g.R.Rows.view c.start.new.seat in
    checked_silent (may z.alone u) u.given c.args.worker c.in-Ok.glimpse.version n (own z u c.args.worker (ap (λ (s : Shape). s.alone) c.in-Ok.ensures.fits.1 ∙ c.requires.alone))

pub publish_as-requires-clause-event : goal.publish_as-requires-clause-event
publish_as-requires-clause-event g c =
    let z = g.R.Rows.shape c.args.rows.now in
    let v = g.R.Rows.view c.args.seat.now in
    let u = g.R.Rows.view c.start.new.seat in
    let x = g.R.Rows.view c.upgrade.new.seat in
    let o = c.in-Ok.ensures.ok in
    let t = c.in-Ok-upgrade.ensures.ok in (
      Lock c.args.worker c.args.row (event_mode c.args.mode),
      refl,
      again_event z (g.R.Rows.shape c.upgrade.new.rows) c.in-Ok.glimpse.row c.in-Ok-upgrade.hold.row c.args.frames c.args.locks c.args.row c.args.worker c.in-Ok.glimpse.version c.args.mode v u x c.requires.alone
          (c.in-Ok-upgrade.ensures.fits.1 ∙ c.in-Ok.ensures.fits.1) c.requires.sized c.requires.row c.requires.open_is c.requires.has o.1 o.3 o.0 (taken_as _ (g.R.Rows.shape c.upgrade.new.rows) c.in-Ok-upgrade.ensures.fits.1 t.1) t.0,
    )

pub unreachable-requires-in-Err-Moved : goal.unreachable-requires-in-Err-Moved
unreachable-requires-in-Err-Moved g c =
    let z = g.R.Rows.shape c.args.rows.now in
    let u = g.R.Rows.view c.start.new.seat in
    let w = g.R.Rows.view c.upgrade.new.seat in
    let o = c.in-Ok.ensures.ok in
    let n = subst (λ (k : Unheld). NotHeld (g.R.Rows.shape c.start.new.rows) c.in-Ok.glimpse.row c.in-Ok.glimpse.version (checked c.args.worker c.in-Ok.glimpse.version) u k w) c.in-Err-Moved.field-0-is c.in-Err-Moved.ensures.err in
    steady z (g.R.Rows.shape c.start.new.rows) c.in-Ok.glimpse.row c.in-Ok.glimpse.version (missed c.args.worker) (checked c.args.worker c.in-Ok.glimpse.version) (g.R.Rows.view c.args.seat.now) u w c.in-Err-Moved.field-0-0 c.requires.alone c.in-Ok.ensures.fits.1
    (subst (λ (q : ℕ). Looked z q (missed c.args.worker) (g.R.Rows.view c.args.seat.now) c.in-Ok.glimpse.version u) (sym o.0) o.3) n

pub returns-in-Ok-upgrade-clause-fits : goal.returns-in-Ok-upgrade-clause-fits
returns-in-Ok-upgrade-clause-fits g c =
    let z = g.R.Rows.shape c.args.rows.now in
    let v = g.R.Rows.view c.args.seat.now in
    let u = g.R.Rows.view c.start.new.seat in
    let x = g.R.Rows.view c.upgrade.new.seat in
    let o = c.in-Ok.ensures.ok in
    let t = c.in-Ok-upgrade.ensures.ok in
    let p = c.publish_as.ensures in
    let shape = c.in-Ok-upgrade.ensures.fits.1 ∙ c.in-Ok.ensures.fits.1 in
    let after = again_after z (g.R.Rows.shape c.upgrade.new.rows) c.in-Ok.glimpse.row c.in-Ok-upgrade.hold.row c.args.frames c.args.locks c.args.row c.args.worker c.in-Ok.glimpse.version c.args.mode v u x c.requires.alone shape
    c.requires.sized c.requires.row c.requires.open_is c.requires.has o.1 o.3 o.0 (taken_as _ (g.R.Rows.shape c.upgrade.new.rows) c.in-Ok-upgrade.ensures.fits.1 t.1) t.0 in
    (p.fits.0, p.fits.1 ∙ shape, (after (g.R.Rows.view c.publish_as.new.seat) p.step.0 (ap first_of (sym p.step.1)) p.step.2).0)

pub returns-in-Ok-upgrade-clause-ok : goal.returns-in-Ok-upgrade-clause-ok
returns-in-Ok-upgrade-clause-ok g c =
    let z = g.R.Rows.shape c.args.rows.now in
    let v = g.R.Rows.view c.args.seat.now in
    let u = g.R.Rows.view c.start.new.seat in
    let x = g.R.Rows.view c.upgrade.new.seat in
    let o = c.in-Ok.ensures.ok in
    let t = c.in-Ok-upgrade.ensures.ok in
    let p = c.publish_as.ensures in
    let shape = c.in-Ok-upgrade.ensures.fits.1 ∙ c.in-Ok.ensures.fits.1 in
    let after = again_after z (g.R.Rows.shape c.upgrade.new.rows) c.in-Ok.glimpse.row c.in-Ok-upgrade.hold.row c.args.frames c.args.locks c.args.row c.args.worker c.in-Ok.glimpse.version c.args.mode v u x c.requires.alone shape
    c.requires.sized c.requires.row c.requires.open_is c.requires.has o.1 o.3 o.0 (taken_as _ (g.R.Rows.shape c.upgrade.new.rows) c.in-Ok-upgrade.ensures.fits.1 t.1) t.0 in
    (after (g.R.Rows.view c.publish_as.new.seat) p.step.0 (ap first_of (sym p.step.1)) p.step.2).1
