use Rattle.std.proofs.Common.{◌∙◌, ℕ, [], ap, subst, arith}
use Rattle.lean_proto.specs.row_words.declared.event.Event.TheVariants.{Lock}
use Rattle.lean_proto.specs.row_words.Openings.{opening}
use Rattle.lean_proto.specs.rows_trait.Views.{Shape, state, may, without}
use Rattle.lean_proto.proofs.rows_trait.Runs.{ran_append}
use Rattle.lean_proto.specs.version_latch.declared.glimpse.Unheld.{Unheld}
use Rattle.lean_proto.specs.version_latch.Unheld.{NotHeld}
use Rattle.lean_proto.specs.version_latch.Named.{checked}
use Rattle.lean_proto.specs.core_state.Steps.{locked}
use Rattle.key_locks.specs.Rows.{IsRow, core_mode, event_mode}
use Rattle.key_locks.specs.Inside.{IsSaid}
use Rattle.key_locks.specs.Locking.{IsPublished}
use Rattle.lean_proto.proofs.version_latch.Naming.{checked_silent}
use Rattle.key_locks.proofs.Calls.{published_before}
use Rattle.key_locks.proofs.Holding.{held_at_row}
use Rattle.key_locks.proofs.Staying.{worker_ran}
use Rattle.key_locks.proofs.Taking.{taking, lock_met, stamp_of, small_log, moved_after}
use Rattle.key_locks.proofs.locking.take.Goals as goal

pub upgrade-requires-clause-event : goal.upgrade-requires-clause-event
upgrade-requires-clause-event g c n =
    let v = g.R.Rows.view c.args.seat.now in checked_silent (may (g.R.Rows.shape c.args.rows.now).alone v) v.given c.args.locks.now.worker c.args.glimpse.now.version n c.requires.actor

pub publish_lock-requires-clause-held : goal.publish_lock-requires-clause-held
publish_lock-requires-clause-held g c = held_at_row c.in-Ok.ensures.ok.0 (taking c.args.locks.now.worker c.requires.at c.requires.known c.requires.sound.0 c.in-Ok.ensures.ok.1).held

pub publish_lock-requires-clause-said : goal.publish_lock-requires-clause-said
publish_lock-requires-clause-said g c = (taking c.args.locks.now.worker c.requires.at c.requires.known c.requires.sound.0 c.in-Ok.ensures.ok.1).said

pub publish_lock-requires-clause-met : goal.publish_lock-requires-clause-met
publish_lock-requires-clause-met g c =
    let v = g.R.Rows.view c.args.seat.now in
    let u = g.R.Rows.view c.upgrade.new.seat in
    let i = c.args.locks.now.row in
    let worker = c.args.locks.now.worker in
    let t = taking c.args.locks.now.worker c.requires.at c.requires.known c.requires.sound.0 c.in-Ok.ensures.ok.1 in
    let open_is = ap (λ y. y.is_open) (worker_ran (g.R.Rows.shape c.args.rows.now).alone v u worker c.requires.actor t.ran) ∙ c.requires.worker.1 in
    let o = (state u).core.row i in
    lock_met (opening u.given) (state u).core worker i c.args.locks.now.mode open_is
    (c.requires.free o (subst (λ (k : ℕ). IsRow k o) t.workers t.sound) (subst (λ (k : ℕ). IsSaid k o c.args.words.now) t.workers t.said))

pub overflow_cast-result : goal.overflow_cast-result
overflow_cast-result g c =
    let u = g.R.Rows.view c.upgrade.new.seat in
    let t = taking c.args.locks.now.worker c.requires.at c.requires.known c.requires.sound.0 c.in-Ok.ensures.ok.1 in
    record { fits = small_log (opening u.given).workers ((state u).core.row c.args.locks.now.row) c.args.words.now t.said t.sound (let n = t.workers in let few = c.requires.sound.1 in omega arith) }

pub returns-in-Ok-clause-fits : goal.returns-in-Ok-clause-fits
returns-in-Ok-clause-fits g c =
    let u = g.R.Rows.view c.upgrade.new.seat in
    let t = taking c.args.locks.now.worker c.requires.at c.requires.known c.requires.sound.0 c.in-Ok.ensures.ok.1 in
    let p = c.publish_lock.ensures.fits in
    (p.0, p.1 ∙ c.in-Ok.ensures.fits.1, p.2 ∙ (ap (λ q. without u.held q) c.in-Ok.ensures.ok.0 ∙ t.rest))

pub returns-in-Ok-clause-ok : goal.returns-in-Ok-clause-ok
returns-in-Ok-clause-ok g c first r =
    let z = g.R.Rows.shape c.args.rows.now in
    let v = g.R.Rows.view c.args.seat.now in
    let u = g.R.Rows.view c.upgrade.new.seat in
    let w = g.R.Rows.view c.publish_lock.new.seat in
    let i = c.args.locks.now.row in
    let worker = c.args.locks.now.worker in
    let mode = c.args.locks.now.mode in
    let t = taking c.args.locks.now.worker c.requires.at c.requires.known c.requires.sound.0 c.in-Ok.ensures.ok.1 in
    let o = (state u).core.row i in
    let Q : Shape → Type 0 = λ y. IsPublished y.alone (Lock worker i (event_mode mode)) i o (locked o worker (core_mode mode)) u w in
    record {
      row = o;
      published = published_before z.alone (Lock worker i (event_mode mode)) i o (locked o worker (core_mode mode)) first u w (ran_append z.alone first [] v [] u r t.ran) (subst Q c.in-Ok.ensures.fits.1 c.publish_lock.ensures.published);
      stamped = stamp_of (opening u.given).workers o c.args.words.now t.said;
    }

pub returns-in-Err-Moved-clause-err : goal.returns-in-Err-Moved-clause-err
returns-in-Err-Moved-clause-err g c first r f =
    let z = g.R.Rows.shape c.args.rows.now in
    let v = g.R.Rows.view c.args.seat.now in
    let u = g.R.Rows.view c.upgrade.new.seat in
    let row = c.args.glimpse.now.row in
    let worker = c.args.locks.now.worker in
    let version = c.args.glimpse.now.version in
    let m = c.in-Err-Moved.moved in
    let P : Unheld → Type 0 = λ y. NotHeld z row version (checked worker version) v y u in
    let e = subst P c.in-Err-Moved.field-0-is c.in-Err-Moved.ensures.err in
    moved_after z worker row version first v u m r f c.requires.actor e
