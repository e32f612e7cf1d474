use Rattle.std.proofs.Common.{[], refl, sym, subst, arith}
use Rattle.btree_descent.specs.row_words.declared.event.Event.TheVariants.{Join}
use Rattle.btree_descent.specs.rows_trait.Views.{Shape}
use Rattle.btree_descent.proofs.version_latch.Keeping.{may_ran}
use Rattle.btree_descent.proofs.Calls.{sound_given}
use Rattle.btree_descent.proofs.Spots.{draws_after}
use Rattle.btree_smo.specs.Outcomes.{MissedUpTo}
use Rattle.held_rows.specs.Rows.{HoldsThree}
use Rattle.held_rows.specs.Publishing.{Went}
use Rattle.held_rows.specs.Waits.{three_on, three_open, unchanged_on, opens_three_as}
use Rattle.btree_smo.proofs.EnteringJoin.{joined_done, not_joined, number_is}
use Rattle.btree_smo.proofs.Answering.{missed_few}
use Rattle.btree_smo.proofs.AnsweringJoin.{unfit_merged}
use Rattle.btree_smo.proofs.Causes.{caused_after}
use Rattle.btree_smo.proofs.join.join_held.Goals as goal

pub give_up_three-requires-clause-three : goal.give_up_three-requires-clause-three
give_up_three-requires-clause-three g c = opens_three_as c.in-Err.ensures.fits.1 refl refl refl (three_open c.in-Err.ensures.held c.requires.three)

pub give_up_three-requires-clause-same : goal.give_up_three-requires-clause-same
give_up_three-requires-clause-same g c =
    let u = g.R.Rows.view c.look.new.seat in
    let held = c.in-Err.ensures.held in
    let t = c.requires.three in
    (unchanged_on u held t.first, unchanged_on u held t.second, unchanged_on u held t.third)

pub returns-in-Err-clause-merged : goal.returns-in-Err-clause-merged
returns-in-Err-clause-merged g c =
    let d = c.args.draw.now in
    unfit_merged c.args.worker c.args.first.row c.args.second.row c.args.third.row (g.R.Rows.view c.args.seat.now) (g.D.Draw.staged_of d) (g.D.Draw.staged_of d) (g.D.Draw.clock_of d) c.in-Err.why c.in-Err.ensures.err
    (subst (λ (y : Shape). MissedUpTo 3 y.alone (g.R.Rows.view c.look.new.seat) (g.R.Rows.view c.give_up_three.new.seat)) c.in-Err.ensures.fits.1 c.give_up_three.ensures.missed)

pub make-requires-clause-three : goal.make-requires-clause-three
make-requires-clause-three g c =
    let o = c.in-Ok.ensures in
    subst (λ (y : Shape). HoldsThree y (g.R.Rows.view c.look.new.seat) c.args.first.row c.args.second.row c.args.third.row) (sym o.fits.1) (three_on o.stood c.requires.three)

pub make-requires-clause-sound : goal.make-requires-clause-sound
make-requires-clause-sound g c = sound_given (g.R.Rows.view c.args.seat.now) (g.R.Rows.view c.look.new.seat) c.in-Ok.ensures.stood.waited.ran.given c.requires.sound

pub make-requires-clause-number : goal.make-requires-clause-number
make-requires-clause-number g c =
    let o = c.in-Ok.ensures in
    let v = g.R.Rows.view c.args.seat.now in
    let u = g.R.Rows.view c.look.new.seat in
    let z = g.R.Rows.shape c.args.rows.now in
    let d = c.args.draw.now in
    let ran = o.stood.waited.ran in
    let dr = draws_after z.alone v u c.args.worker (g.D.Draw.log_of d) (g.D.Draw.txn_of d) (g.D.Draw.clock_of d) (g.D.Draw.last_of d) c.requires.actor ran c.requires.draws in
    let t = three_on o.stood c.requires.three in
    let actor = may_ran z.alone v u [] c.args.worker ran c.requires.actor in
    let sound = sound_given v u ran.given c.requires.sound in
    number_is c.in-Ok.joining t o.ok actor sound (g.D.Draw.log_of d) (g.D.Draw.txn_of d) (g.D.Draw.clock_of d) (g.D.Draw.clock_of c.stage.new.draw) (g.D.Draw.last_of d) c.in-Ok-stage.number dr c.in-Ok-stage.ensures.clock c.in-Ok-stage.ensures.number

pub give_up_three-requires-in-Err-stage-clause-three : goal.give_up_three-requires-in-Err-stage-clause-three
give_up_three-requires-in-Err-stage-clause-three g c = opens_three_as c.in-Ok.ensures.fits.1 refl refl refl (three_open c.in-Ok.ensures.held c.requires.three)

pub give_up_three-requires-in-Err-stage-clause-same : goal.give_up_three-requires-in-Err-stage-clause-same
give_up_three-requires-in-Err-stage-clause-same g c =
    let u = g.R.Rows.view c.look.new.seat in
    let held = c.in-Ok.ensures.held in
    let t = c.requires.three in
    (unchanged_on u held t.first, unchanged_on u held t.second, unchanged_on u held t.third)

pub returns-in-Ok-stage-clause-merged : goal.returns-in-Ok-stage-clause-merged
returns-in-Ok-stage-clause-merged g c =
    let o = c.in-Ok.ensures in
    let v = g.R.Rows.view c.args.seat.now in
    let u = g.R.Rows.view c.look.new.seat in
    let z = g.R.Rows.shape c.args.rows.now in
    let d = c.args.draw.now in
    let ran = o.stood.waited.ran in
    let dr = draws_after z.alone v u c.args.worker (g.D.Draw.log_of d) (g.D.Draw.txn_of d) (g.D.Draw.clock_of d) (g.D.Draw.last_of d) c.requires.actor ran c.requires.draws in
    let t = three_on o.stood c.requires.three in
    let actor = may_ran z.alone v u [] c.args.worker ran c.requires.actor in
    let sound = sound_given v u ran.given c.requires.sound in
    let l = c.in-Ok.joining in
    let w = g.R.Rows.view c.make.new.seat in
    let went = subst (λ (y : Shape). Went y.alone u (Join c.args.worker l.left.number l.right.number l.parent.number) w) o.fits.1 c.make.ensures.went in
    joined_done l t o.ok actor sound o.stood went (g.D.Draw.log_of d) (g.D.Draw.txn_of d) (g.D.Draw.clock_of d) (g.D.Draw.clock_of c.stage.new.draw) (g.D.Draw.last_of d) c.in-Ok-stage.number (g.D.Draw.staged_of d) (g.D.Draw.staged_of c.stage.new.draw) dr c.in-Ok-stage.ensures.clock c.in-Ok-stage.ensures.number c.in-Ok-stage.ensures.staged

pub returns-in-Err-stage-clause-merged : goal.returns-in-Err-stage-clause-merged
returns-in-Err-stage-clause-merged g c =
    let o = c.in-Ok.ensures in
    let v = g.R.Rows.view c.args.seat.now in
    let u = g.R.Rows.view c.look.new.seat in
    let z = g.R.Rows.shape c.args.rows.now in
    let d = c.args.draw.now in
    let ran = o.stood.waited.ran in
    let dr = draws_after z.alone v u c.args.worker (g.D.Draw.log_of d) (g.D.Draw.txn_of d) (g.D.Draw.clock_of d) (g.D.Draw.last_of d) c.requires.actor ran c.requires.draws in
    let t = three_on o.stood c.requires.three in
    let actor = may_ran z.alone v u [] c.args.worker ran c.requires.actor in
    let sound = sound_given v u ran.given c.requires.sound in
    let w = g.R.Rows.view c.give_up_three-in-Err-stage.new.seat in
    let missed = missed_few 3 (omega arith) (subst (λ (y : Shape). MissedUpTo 3 y.alone u w) o.fits.1 c.give_up_three-in-Err-stage.ensures.missed) in
    not_joined c.in-Ok.joining t o.ok actor sound o.stood missed (g.D.Draw.log_of d) (g.D.Draw.txn_of d) (g.D.Draw.clock_of d) (g.D.Draw.clock_of c.stage.new.draw) (g.D.Draw.last_of d) (g.D.Draw.staged_of d) (g.D.Draw.staged_of c.stage.new.draw) dr c.in-Err-stage.ensures.clock c.in-Err-stage.ensures.same.0

pub stage-requires-clause-left_page : goal.stage-requires-clause-left_page
stage-requires-clause-left_page g c =
    let o = c.in-Ok.ensures in
    let v = g.R.Rows.view c.args.seat.now in
    let u = g.R.Rows.view c.look.new.seat in
    let b = o.ok.left.stands.below in
    let f = (sound_given v u o.stood.waited.ran.given c.requires.sound u.seen).few in
    omega arith

pub make-requires-clause-left_page : goal.make-requires-clause-left_page
make-requires-clause-left_page g c =
    let o = c.in-Ok.ensures in
    let v = g.R.Rows.view c.args.seat.now in
    let u = g.R.Rows.view c.look.new.seat in
    let b = o.ok.left.stands.below in
    let f = (sound_given v u o.stood.waited.ran.given c.requires.sound u.seen).few in
    omega arith

pub stage-requires-clause-right_page : goal.stage-requires-clause-right_page
stage-requires-clause-right_page g c =
    let o = c.in-Ok.ensures in
    let v = g.R.Rows.view c.args.seat.now in
    let u = g.R.Rows.view c.look.new.seat in
    let b = o.ok.right.stands.below in
    let f = (sound_given v u o.stood.waited.ran.given c.requires.sound u.seen).few in
    omega arith

pub make-requires-clause-right_page : goal.make-requires-clause-right_page
make-requires-clause-right_page g c =
    let o = c.in-Ok.ensures in
    let v = g.R.Rows.view c.args.seat.now in
    let u = g.R.Rows.view c.look.new.seat in
    let b = o.ok.right.stands.below in
    let f = (sound_given v u o.stood.waited.ran.given c.requires.sound u.seen).few in
    omega arith

pub stage-requires-clause-parent_page : goal.stage-requires-clause-parent_page
stage-requires-clause-parent_page g c =
    let o = c.in-Ok.ensures in
    let v = g.R.Rows.view c.args.seat.now in
    let u = g.R.Rows.view c.look.new.seat in
    let b = o.ok.parent.stands.below in
    let f = (sound_given v u o.stood.waited.ran.given c.requires.sound u.seen).few in
    omega arith

pub make-requires-clause-parent_page : goal.make-requires-clause-parent_page
make-requires-clause-parent_page g c =
    let o = c.in-Ok.ensures in
    let v = g.R.Rows.view c.args.seat.now in
    let u = g.R.Rows.view c.look.new.seat in
    let b = o.ok.parent.stands.below in
    let f = (sound_given v u o.stood.waited.ran.given c.requires.sound u.seen).few in
    omega arith

pub returns-in-Err-clause-quiet : goal.returns-in-Err-clause-quiet
returns-in-Err-clause-quiet g c alone = c.in-Err.ensures.quiet alone

pub returns-in-Err-clause-cause : goal.returns-in-Err-clause-cause
returns-in-Err-clause-cause g c = caused_after (g.R.Rows.view c.args.seat.now) c.in-Err.why c.in-Err.ensures.cause c.give_up_three.ensures.missed.ran.since
