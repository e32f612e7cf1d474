use Rattle.std.proofs.Common.{◌≡◌, ◌∙◌, sym, ap, subst, true}
use Rattle.lean_proto.specs.core_state.States.{Row}
use Rattle.lean_proto.specs.core_state.Needs as needs
use Rattle.lean_proto.specs.core_state.Steps.{unlocked}
use Rattle.lean_proto.specs.row_words.declared.event.Event.TheVariants.{Unlock}
use Rattle.lean_proto.specs.row_words.declared.given.Given.{Given}
use Rattle.lean_proto.specs.row_words.Moments.{event_of}
use Rattle.lean_proto.specs.row_words.Openings.{opening}
use Rattle.lean_proto.specs.rows_trait.Views.{Shape, state}
use Rattle.key_locks.specs.Locking.{IsPublished}
use Rattle.key_locks.proofs.Calls.{published_before}
use Rattle.key_locks.proofs.Staying.{worker_ran}
use Rattle.key_locks.proofs.Publishing.{unlock_alike}
use Rattle.key_locks.proofs.held.unlock_row.Goals as goal

pub publish_unlock-requires-clause-end : goal.publish_unlock-requires-clause-end
publish_unlock-requires-clause-end g c =
    let v = g.R.Rows.view c.args.seat.now in
    let u = g.R.Rows.view c.load-words.new.seat in
    let w = c.args.unlocks.now.worker in
    c.requires.«end» ∙ ap (λ y. y.end) (sym (worker_ran (g.R.Rows.shape c.args.rows.now).alone v u w c.requires.actor c.load-words.ensures.stayed.ran))

pub publish_unlock-requires-clause-met : goal.publish_unlock-requires-clause-met
publish_unlock-requires-clause-met g c =
    let v = g.R.Rows.view c.args.seat.now in
    let u = g.R.Rows.view c.load-words.new.seat in
    let w = c.args.unlocks.now.worker in
    let i = c.args.unlocks.now.row in
    let stayed = c.load-words.ensures.stayed in
    let met = (unlock_alike v i w c.args.«end» c.requires.«end» c.requires.met (state u).core (stayed.same i c.requires.at.place) (worker_ran (g.R.Rows.shape c.args.rows.now).alone v u w c.requires.actor stayed.ran)).0 in
    subst (λ (y : Given). needs.may (opening y) (state u).core (event_of (Unlock w i)) ≡ true) (sym stayed.ran.given) met

pub returns-clause-published : goal.returns-clause-published
returns-clause-published g c =
    let z = g.R.Rows.shape c.args.rows.now in
    let v = g.R.Rows.view c.args.seat.now in
    let u = g.R.Rows.view c.load-words.new.seat in
    let x = g.R.Rows.view c.publish_unlock.new.seat in
    let w = c.args.unlocks.now.worker in
    let i = c.args.unlocks.now.row in
    let stayed = c.load-words.ensures.stayed in
    let Q : Shape × Row → Type 0 = λ y. IsPublished y.0.alone (Unlock w i) i y.1 (unlocked y.1 w c.args.«end») u x in
    let o = (state v).core.row i in
    published_before z.alone (Unlock w i) i o (unlocked o w c.args.«end») v u x stayed.ran (subst Q (λ j. (c.load-words.ensures.fits.1 j, stayed.same i c.requires.at.place j)) c.publish_unlock.ensures.published)

pub load-words-requires-clause-fits : goal.load-words-requires-clause-fits
load-words-requires-clause-fits g c = c.requires.fits

pub load-words-requires-clause-at : goal.load-words-requires-clause-at
load-words-requires-clause-at g c = c.requires.at

pub load-words-requires-clause-held : goal.load-words-requires-clause-held
load-words-requires-clause-held g c = c.requires.held

pub publish_unlock-requires-clause-fits : goal.publish_unlock-requires-clause-fits
publish_unlock-requires-clause-fits g c = c.load-words.ensures.fits.0

pub publish_unlock-requires-clause-held : goal.publish_unlock-requires-clause-held
publish_unlock-requires-clause-held g c = c.load-words.ensures.held

pub publish_unlock-requires-clause-said : goal.publish_unlock-requires-clause-said
publish_unlock-requires-clause-said g c = c.load-words.ensures.said
