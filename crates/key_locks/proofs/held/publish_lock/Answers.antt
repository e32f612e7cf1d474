use Rattle.std.proofs.Common.{◌∙◌, refl, sym, ap}
use Rattle.lean_proto.specs.row_words.declared.event.Event.TheVariants.{Lock}
use Rattle.lean_proto.specs.row_words.Openings.{opening}
use Rattle.lean_proto.specs.rows_trait.Inside.{first_of}
use Rattle.lean_proto.specs.rows_trait.Views.{state}
use Rattle.key_locks.specs.Rows.{event_mode}
use Rattle.key_locks.proofs.Publishing.{lock_ready}
use Rattle.key_locks.proofs.held.publish_lock.Goals as goal

pub publish_as-requires-clause-event : goal.publish_as-requires-clause-event
publish_as-requires-clause-event g c =
    let v = g.R.Rows.view c.args.seat.now in
    let i = c.args.locks.now.row in
    let w = c.args.locks.now.worker in
    let said = c.locked-after.ensures (opening v.given).workers ((state v).core.row i) c.requires.worker.0 c.requires.worker.1 c.requires.said in
    let p = lock_ready v i w c.args.locks.now.mode c.requires.at c.requires.actor c.requires.met c.store.ensures.fits.1 c.store.ensures.fits.2 c.store.ensures.stayed c.store.ensures.stored said in
    (Lock w i (event_mode c.args.locks.now.mode), refl, p.event)

pub returns-clause-published : goal.returns-clause-published
returns-clause-published g c =
    let v = g.R.Rows.view c.args.seat.now in
    let i = c.args.locks.now.row in
    let w = c.args.locks.now.worker in
    let said = c.locked-after.ensures (opening v.given).workers ((state v).core.row i) c.requires.worker.0 c.requires.worker.1 c.requires.said in
    let p = lock_ready v i w c.args.locks.now.mode c.requires.at c.requires.actor c.requires.met c.store.ensures.fits.1 c.store.ensures.fits.2 c.store.ensures.stayed c.store.ensures.stored said in
    (p.after (g.R.Rows.view c.publish_as.new.seat) c.publish_as.ensures.step.0 (ap first_of (sym c.publish_as.ensures.step.1)) c.publish_as.ensures.step.2).1

pub returns-clause-fits : goal.returns-clause-fits
returns-clause-fits g c =
    let v = g.R.Rows.view c.args.seat.now in
    let i = c.args.locks.now.row in
    let w = c.args.locks.now.worker in
    let said = c.locked-after.ensures (opening v.given).workers ((state v).core.row i) c.requires.worker.0 c.requires.worker.1 c.requires.said in
    let p = lock_ready v i w c.args.locks.now.mode c.requires.at c.requires.actor c.requires.met c.store.ensures.fits.1 c.store.ensures.fits.2 c.store.ensures.stayed c.store.ensures.stored said in
    (c.publish_as.ensures.fits.0, c.publish_as.ensures.fits.1 ∙ c.store.ensures.fits.1, (p.after (g.R.Rows.view c.publish_as.new.seat) c.publish_as.ensures.step.0 (ap first_of (sym c.publish_as.ensures.step.1)) c.publish_as.ensures.step.2).0)
