use Rattle.std.proofs.Common.{◌∙◌, ℕ, refl, sym, ap, subst}
use Rattle.btree_descent.specs.rows_trait.Views.{Shape, holds}
use Rattle.btree_descent.proofs.Calls.{frame_row, frames_after, sound_given}
use Rattle.btree_descent.proofs.Spots.{draws_after}
use Rattle.held_rows.specs.Rows.{HoldsOne}
use Rattle.held_rows.proofs.TakingMore.{took_one}
use Rattle.btree_smo.specs.Purges.{Clears, IsFloor}
use Rattle.btree_smo.proofs.Tombstones.{sized_on}
use Rattle.btree_smo.proofs.EnteringPurge.{may_on}
use Rattle.btree_smo.proofs.AnsweringPurge.{floor_after, clears_after, missed_declined, caused_of}
use Rattle.btree_smo.proofs.purge.purge.Goals as goal

pub purge_held-requires-clause-locks : goal.purge_held-requires-clause-locks
purge_held-requires-clause-locks g c = sized_on {v = g.R.Rows.view c.args.seat.now} {w = g.R.Rows.view c.latch_one.new.seat} c.in-Ok.ensures.fits.1 c.in-Ok.ensures.ok.1.ran.given c.requires.locks

pub purge_held-requires-clause-sound_rows : goal.purge_held-requires-clause-sound_rows
purge_held-requires-clause-sound_rows g c = subst Rattle.key_locks.specs.Rows.IsSound (sym c.in-Ok.ensures.ok.1.ran.given) c.requires.sound_rows

pub purge_held-requires-clause-sound : goal.purge_held-requires-clause-sound
purge_held-requires-clause-sound g c = sound_given (g.R.Rows.view c.args.seat.now) (g.R.Rows.view c.latch_one.new.seat) c.in-Ok.ensures.ok.1.ran.given c.requires.sound

pub purge_held-requires-clause-leaf : goal.purge_held-requires-clause-leaf
purge_held-requires-clause-leaf g c =
    let z = g.R.Rows.shape c.args.rows.now in
    let v = g.R.Rows.view c.args.seat.now in
    let u = g.R.Rows.view c.latch_one.new.seat in
    let o = c.in-Ok.ensures in
    let f = frame_row z v c.args.frames c.args.leaf c.requires.sized c.requires.leaf in
    let h : HoldsOne z u c.args.leaf = took_one c.requires.held (record { frames = frames_after z v v c.args.frames c.args.leaf refl c.requires.sized c.requires.leaf; inside = f.0; wide = f.1 }) o.ok.1 in
    subst (λ (q : Shape × ℕ). HoldsOne q.0 u q.1) (λ i. (sym o.fits.1 i, sym o.ok.0 i)) h

pub purge_held-requires-clause-floor : goal.purge_held-requires-clause-floor
purge_held-requires-clause-floor g c =
    let z = g.R.Rows.shape c.args.rows.now in
    let u = g.R.Rows.view c.latch_one.new.seat in
    subst (λ (y : Shape). IsFloor y u c.args.floor) (sym c.in-Ok.ensures.fits.1) (floor_after {z = z} {v = g.R.Rows.view c.args.seat.now} {u = u} c.in-Ok.ensures.ok.1.ran c.requires.floor)

pub purge_held-requires-clause-may : goal.purge_held-requires-clause-may
purge_held-requires-clause-may g c =
    may_on c.requires.actor c.in-Ok.ensures.ok.1.ran c.requires.may

pub purge_held-requires-clause-draws : goal.purge_held-requires-clause-draws
purge_held-requires-clause-draws g c =
    let z = g.R.Rows.shape c.args.rows.now in
    let d = c.args.draw.now in
    draws_after z.alone (g.R.Rows.view c.args.seat.now) (g.R.Rows.view c.latch_one.new.seat) c.args.worker (g.D.Draw.log_of d) (g.D.Draw.txn_of d) (g.D.Draw.clock_of d) (g.D.Draw.last_of d) c.requires.actor c.in-Ok.ensures.ok.1.ran c.requires.draws

pub returns-in-Ok-clause-clears : goal.returns-in-Ok-clause-clears
returns-in-Ok-clause-clears g c =
    let u = g.R.Rows.view c.latch_one.new.seat in
    let w = g.R.Rows.view c.purge_held.new.seat in
    let rs = g.D.Draw.staged_of c.args.draw.now in
    let now = g.D.Draw.staged_of c.purge_held.new.draw in
    let clock = g.D.Draw.clock_of c.purge_held.new.draw in
    let o = c.in-Ok.ensures in
    clears_after c.args.worker c.args.leaf c.args.most w rs now clock c.purge_held.result o.ok.1.ran
    (subst (λ (q : Shape × ℕ). Clears q.0.alone c.args.worker q.1 c.args.most u rs c.purge_held.result w clock now) (λ i. (o.fits.1 i, o.ok.0 i)) c.purge_held.ensures.clears)

pub returns-in-Ok-clause-cause : goal.returns-in-Ok-clause-cause
returns-in-Ok-clause-cause g c = caused_of (g.R.Rows.view c.purge_held.new.seat) c.purge_held.result c.in-Ok.ensures.ok.1.ran.since c.purge_held.ensures.cause

pub returns-in-Ok-clause-quiet : goal.returns-in-Ok-clause-quiet
returns-in-Ok-clause-quiet g c alone = c.purge_held.ensures.quiet (ap (λ (y : Shape). y.alone) c.in-Ok.ensures.fits.1 ∙ alone)

pub returns-in-Err-clause-clears : goal.returns-in-Err-clause-clears
returns-in-Err-clause-clears g c =
    let d = c.args.draw.now in
    missed_declined c.args.worker c.args.leaf (g.D.Draw.staged_of d) (g.D.Draw.staged_of d) (g.D.Draw.clock_of d) c.in-Err.why c.in-Err.ensures.err.0 c.in-Err.ensures.err.1

pub returns-in-Err-clause-quiet : goal.returns-in-Err-clause-quiet
returns-in-Err-clause-quiet g c alone = c.in-Err.ensures.quiet alone (ap (λ hs. holds hs c.args.leaf) c.requires.held)

pub returns-in-Err-clause-cause : goal.returns-in-Err-clause-cause
returns-in-Err-clause-cause g c = c.in-Err.ensures.cause
