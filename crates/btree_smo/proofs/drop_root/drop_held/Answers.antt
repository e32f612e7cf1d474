use Rattle.std.proofs.Common.{[], refl, sym, subst, arith}
use Rattle.btree_descent.specs.rows_trait.Views.{Shape}
use Rattle.btree_descent.specs.row_words.declared.event.Event.TheVariants.{Drop}
use Rattle.btree_descent.proofs.version_latch.Keeping.{may_ran}
use Rattle.btree_descent.proofs.Calls.{sound_given}
use Rattle.btree_descent.proofs.Spots.{draws_after}
use Rattle.btree_smo.specs.Outcomes.{MissedUpTo}
use Rattle.held_rows.specs.Rows.{HoldsTwo}
use Rattle.held_rows.specs.Publishing.{Went}
use Rattle.held_rows.specs.Waits.{two_on, two_open, unchanged_on, opens_two_as}
use Rattle.btree_smo.proofs.EnteringDrop.{dropped_done, not_dropped, number_is}
use Rattle.btree_smo.proofs.Answering.{missed_few}
use Rattle.btree_smo.proofs.AnsweringDrop.{unfit_lowered}
use Rattle.btree_smo.proofs.Causes.{caused_after}
use Rattle.btree_smo.proofs.drop_root.drop_held.Goals as goal

pub give_up_two-requires-clause-two : goal.give_up_two-requires-clause-two
give_up_two-requires-clause-two g c = opens_two_as c.in-Err.ensures.fits.1 refl refl (two_open c.in-Err.ensures.held c.requires.two)

pub give_up_two-requires-clause-same : goal.give_up_two-requires-clause-same
give_up_two-requires-clause-same g c =
    let u = g.R.Rows.view c.look.new.seat in
    let held = c.in-Err.ensures.held in
    (unchanged_on u held c.requires.two.first, unchanged_on u held c.requires.two.second)

pub returns-in-Err-clause-lowered : goal.returns-in-Err-clause-lowered
returns-in-Err-clause-lowered g c =
    let d = c.args.draw.now in
    unfit_lowered c.args.worker c.args.second.row (g.R.Rows.view c.args.seat.now) (g.D.Draw.staged_of d) (g.D.Draw.staged_of d) (g.D.Draw.clock_of d) c.in-Err.why c.in-Err.ensures.err (subst (λ (y : Shape). MissedUpTo 2 y.alone (g.R.Rows.view c.look.new.seat) (g.R.Rows.view c.give_up_two.new.seat)) c.in-Err.ensures.fits.1 c.give_up_two.ensures.missed)

pub make-requires-clause-two : goal.make-requires-clause-two
make-requires-clause-two g c =
    let o = c.in-Ok.ensures in
    subst (λ (y : Shape). HoldsTwo y (g.R.Rows.view c.look.new.seat) c.args.first.row c.args.second.row) (sym o.fits.1) (two_on o.stood c.requires.two)

pub make-requires-clause-sound : goal.make-requires-clause-sound
make-requires-clause-sound g c = sound_given (g.R.Rows.view c.args.seat.now) (g.R.Rows.view c.look.new.seat) c.in-Ok.ensures.stood.waited.ran.given c.requires.sound

pub make-requires-clause-number : goal.make-requires-clause-number
make-requires-clause-number g c =
    let o = c.in-Ok.ensures in
    let v = g.R.Rows.view c.args.seat.now in
    let u = g.R.Rows.view c.look.new.seat in
    let z = g.R.Rows.shape c.args.rows.now in
    let d = c.args.draw.now in
    let ran = o.stood.waited.ran in
    let dr = draws_after z.alone v u c.args.worker (g.D.Draw.log_of d) (g.D.Draw.txn_of d) (g.D.Draw.clock_of d) (g.D.Draw.last_of d) c.requires.actor ran c.requires.draws in
    let t = two_on o.stood c.requires.two in
    number_is c.in-Ok.dropping t c.requires.first o.ok (may_ran z.alone v u [] c.args.worker ran c.requires.actor) (sound_given v u ran.given c.requires.sound) (g.D.Draw.log_of d) (g.D.Draw.txn_of d) (g.D.Draw.clock_of d) (g.D.Draw.clock_of c.stage.new.draw) (g.D.Draw.last_of d) c.in-Ok-stage.number dr c.in-Ok-stage.ensures.clock c.in-Ok-stage.ensures.number

pub give_up_two-requires-in-Err-stage-clause-two : goal.give_up_two-requires-in-Err-stage-clause-two
give_up_two-requires-in-Err-stage-clause-two g c = opens_two_as c.in-Ok.ensures.fits.1 refl refl (two_open c.in-Ok.ensures.held c.requires.two)

pub give_up_two-requires-in-Err-stage-clause-same : goal.give_up_two-requires-in-Err-stage-clause-same
give_up_two-requires-in-Err-stage-clause-same g c =
    let u = g.R.Rows.view c.look.new.seat in
    let held = c.in-Ok.ensures.held in
    (unchanged_on u held c.requires.two.first, unchanged_on u held c.requires.two.second)

pub returns-in-Ok-stage-clause-lowered : goal.returns-in-Ok-stage-clause-lowered
returns-in-Ok-stage-clause-lowered g c =
    let o = c.in-Ok.ensures in
    let v = g.R.Rows.view c.args.seat.now in
    let u = g.R.Rows.view c.look.new.seat in
    let w = g.R.Rows.view c.make.new.seat in
    let z = g.R.Rows.shape c.args.rows.now in
    let d = c.args.draw.now in
    let ran = o.stood.waited.ran in
    let dr = draws_after z.alone v u c.args.worker (g.D.Draw.log_of d) (g.D.Draw.txn_of d) (g.D.Draw.clock_of d) (g.D.Draw.last_of d) c.requires.actor ran c.requires.draws in
    let t = two_on o.stood c.requires.two in
    let went = subst (λ (y : Shape). Went y.alone u (Drop c.args.worker c.in-Ok.dropping.child.number) w) o.fits.1 c.make.ensures.went in
    dropped_done c.in-Ok.dropping t c.requires.first o.ok (may_ran z.alone v u [] c.args.worker ran c.requires.actor) (sound_given v u ran.given c.requires.sound) o.stood went (g.D.Draw.log_of d) (g.D.Draw.txn_of d) (g.D.Draw.clock_of d) (g.D.Draw.clock_of c.stage.new.draw) (g.D.Draw.last_of d) c.in-Ok-stage.number (g.D.Draw.staged_of d) (g.D.Draw.staged_of c.stage.new.draw) dr c.in-Ok-stage.ensures.clock c.in-Ok-stage.ensures.number c.in-Ok-stage.ensures.staged

pub returns-in-Err-stage-clause-lowered : goal.returns-in-Err-stage-clause-lowered
returns-in-Err-stage-clause-lowered g c =
    let o = c.in-Ok.ensures in
    let v = g.R.Rows.view c.args.seat.now in
    let u = g.R.Rows.view c.look.new.seat in
    let w = g.R.Rows.view c.give_up_two-in-Err-stage.new.seat in
    let z = g.R.Rows.shape c.args.rows.now in
    let d = c.args.draw.now in
    let ran = o.stood.waited.ran in
    let dr = draws_after z.alone v u c.args.worker (g.D.Draw.log_of d) (g.D.Draw.txn_of d) (g.D.Draw.clock_of d) (g.D.Draw.last_of d) c.requires.actor ran c.requires.draws in
    let t = two_on o.stood c.requires.two in
    let missed = missed_few 2 (omega arith) (subst (λ (y : Shape). MissedUpTo 2 y.alone u w) o.fits.1 c.give_up_two-in-Err-stage.ensures.missed) in
    not_dropped c.in-Ok.dropping t c.requires.first o.ok (may_ran z.alone v u [] c.args.worker ran c.requires.actor) (sound_given v u ran.given c.requires.sound) o.stood missed (g.D.Draw.log_of d) (g.D.Draw.txn_of d) (g.D.Draw.clock_of d) (g.D.Draw.clock_of c.stage.new.draw) (g.D.Draw.last_of d) (g.D.Draw.staged_of d) (g.D.Draw.staged_of c.stage.new.draw) dr c.in-Err-stage.ensures.clock c.in-Err-stage.ensures.same.0

pub returns-in-Err-clause-quiet : goal.returns-in-Err-clause-quiet
returns-in-Err-clause-quiet g c alone = c.in-Err.ensures.quiet alone

pub returns-in-Err-clause-cause : goal.returns-in-Err-clause-cause
returns-in-Err-clause-cause g c = caused_after (g.R.Rows.view c.args.seat.now) c.in-Err.why c.in-Err.ensures.cause c.give_up_two.ensures.missed.ran.since
