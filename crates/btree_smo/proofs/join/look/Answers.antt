use Rattle.std.proofs.Common.{◌<◌, ◌^◌, ◌∙◌, ap, sym, subst}
use Rattle.btree_descent.specs.core_state.States.{Worker}
use Rattle.btree_descent.specs.rows_trait.Views.{Shape}
use Rattle.btree_descent.proofs.lean_proto.Owns.{own_after}
use Rattle.btree_descent.proofs.Calls.{sound_given, sound_after}
use Rattle.held_rows.specs.Rows.{IsFrame}
use Rattle.held_rows.specs.Latching.{Refused}
use Rattle.held_rows.specs.Waits.{stood_then, stood_shape, frame_on}
use Rattle.btree_smo.proofs.Waiting.{stands_on}
use Rattle.btree_smo.proofs.Reading.{refused_after}
use Rattle.btree_smo.proofs.LookingJoin.{left_bare, right_bare, parent_bare, cant_fit, missed_unfit, joining_at}
use Rattle.btree_smo.proofs.Children.{no_child_beside}
use Rattle.btree_smo.proofs.Naming.{leads_to}
use Rattle.held_rows.specs.Waits.{three_on}
use Rattle.btree_smo.proofs.Causes.{caused_before}
use Rattle.btree_smo.proofs.LookingJoin.{cant_caused}
use Rattle.btree_smo.proofs.join.look.Goals as goal

pub page_in-requires-2-clause-frame : goal.page_in-requires-2-clause-frame
page_in-requires-2-clause-frame g c =
    subst (λ (y : Shape). IsFrame y (g.R.Rows.view c.page_in.new.seat) c.args.second.now.row) (sym c.page_in.ensures.fits.1) (frame_on c.page_in.ensures.stood c.requires.three.second)

pub page_in-requires-2-clause-sound : goal.page_in-requires-2-clause-sound
page_in-requires-2-clause-sound g c = sound_given (g.R.Rows.view c.args.seat.now) (g.R.Rows.view c.page_in.new.seat) c.page_in.ensures.stood.waited.ran.given c.requires.sound

pub page_in-requires-3-clause-frame : goal.page_in-requires-3-clause-frame
page_in-requires-3-clause-frame g c =
    let e1 = c.page_in.ensures.fits.1 in
    let s12 = stood_then c.page_in.ensures.stood (stood_shape e1 c.page_in-2.ensures.stood) in
    subst (λ (y : Shape). IsFrame y (g.R.Rows.view c.page_in-2.new.seat) c.args.third.now.row) (sym (c.page_in-2.ensures.fits.1 ∙ e1)) (frame_on s12 c.requires.three.third)

pub page_in-requires-3-clause-sound : goal.page_in-requires-3-clause-sound
page_in-requires-3-clause-sound g c =
    let s12 = stood_then c.page_in.ensures.stood (stood_shape c.page_in.ensures.fits.1 c.page_in-2.ensures.stood) in
    sound_given (g.R.Rows.view c.args.seat.now) (g.R.Rows.view c.page_in-2.new.seat) s12.waited.ran.given c.requires.sound

pub returns-in_default-clause-err : goal.returns-in_default-clause-err
returns-in_default-clause-err g c = (c.page_in.ensures.stood, left_bare c.in_default.ensures.none)

pub returns-in_default-page_in-clause-err : goal.returns-in_default-page_in-clause-err
returns-in_default-page_in-clause-err g c =
    (stood_then c.page_in.ensures.stood (stood_shape c.page_in.ensures.fits.1 c.page_in-2.ensures.stood), right_bare c.in_default-page_in.ensures.none)

pub returns-in_default-page_in-2-clause-err : goal.returns-in_default-page_in-2-clause-err
returns-in_default-page_in-2-clause-err g c =
    let y = g.R.Rows.shape c.args.rows.now in
    let v = g.R.Rows.view c.args.seat.now in
    let e1 = c.page_in.ensures.fits.1 in
    let e2 = c.page_in-2.ensures.fits.1 ∙ e1 in
    let s1 = c.page_in.ensures.stood in
    let s2 = stood_shape e1 c.page_in-2.ensures.stood in
    let s3 = stood_shape e2 c.page_in-3.ensures.stood in
    let s12 = stood_then s1 s2 in
    let k = stood_then s12 s3 in
    let f1 = frame_on s1 c.requires.three.first in
    let f2 = frame_on s12 c.requires.three.second in
    let u = g.R.Rows.view c.page_in-3.new.seat in
    (k, parent_bare c.in_default-page_in-2.ensures.none)

pub image-requires-clause-sound : goal.image-requires-clause-sound
image-requires-clause-sound g c =
    let y = g.R.Rows.shape c.args.rows.now in
    let v = g.R.Rows.view c.args.seat.now in
    let e1 = c.page_in.ensures.fits.1 in
    let e2 = c.page_in-2.ensures.fits.1 ∙ e1 in
    let s1 = c.page_in.ensures.stood in
    let s2 = stood_shape e1 c.page_in-2.ensures.stood in
    let s3 = stood_shape e2 c.page_in-3.ensures.stood in
    let s12 = stood_then s1 s2 in
    let k = stood_then s12 s3 in
    let f1 = frame_on s1 c.requires.three.first in
    let f2 = frame_on s12 c.requires.three.second in
    let u = g.R.Rows.view c.page_in-3.new.seat in
    sound_given v u k.waited.ran.given c.requires.sound

pub image-requires-clause-frame : goal.image-requires-clause-frame
image-requires-clause-frame g c =
    let y = g.R.Rows.shape c.args.rows.now in
    let v = g.R.Rows.view c.args.seat.now in
    let e1 = c.page_in.ensures.fits.1 in
    let e2 = c.page_in-2.ensures.fits.1 ∙ e1 in
    let s1 = c.page_in.ensures.stood in
    let s2 = stood_shape e1 c.page_in-2.ensures.stood in
    let s3 = stood_shape e2 c.page_in-3.ensures.stood in
    let s12 = stood_then s1 s2 in
    let k = stood_then s12 s3 in
    let f1 = frame_on s1 c.requires.three.first in
    let f2 = frame_on s12 c.requires.three.second in
    let u = g.R.Rows.view c.page_in-3.new.seat in
    subst (λ (x : Shape). IsFrame x u c.args.second.now.row) (sym (c.page_in-3.ensures.fits.1 ∙ e2)) (frame_on k c.requires.three.second)

pub image-requires-clause-stands : goal.image-requires-clause-stands
image-requires-clause-stands g c =
    let y = g.R.Rows.shape c.args.rows.now in
    let v = g.R.Rows.view c.args.seat.now in
    let e1 = c.page_in.ensures.fits.1 in
    let e2 = c.page_in-2.ensures.fits.1 ∙ e1 in
    let s1 = c.page_in.ensures.stood in
    let s2 = stood_shape e1 c.page_in-2.ensures.stood in
    let s3 = stood_shape e2 c.page_in-3.ensures.stood in
    let s12 = stood_then s1 s2 in
    let k = stood_then s12 s3 in
    let f1 = frame_on s1 c.requires.three.first in
    let f2 = frame_on s12 c.requires.three.second in
    let u = g.R.Rows.view c.page_in-3.new.seat in
    stands_on s3.waited f2.frames f2.mine c.in-Some-page_in.ensures.some

pub returns-in-Ok-image-clause-stood : goal.returns-in-Ok-image-clause-stood
returns-in-Ok-image-clause-stood g c =
    let y = g.R.Rows.shape c.args.rows.now in
    let v = g.R.Rows.view c.args.seat.now in
    let e1 = c.page_in.ensures.fits.1 in
    let e2 = c.page_in-2.ensures.fits.1 ∙ e1 in
    let e3 = c.page_in-3.ensures.fits.1 ∙ e2 in
    let s1 = c.page_in.ensures.stood in
    let s2 = stood_shape e1 c.page_in-2.ensures.stood in
    let s3 = stood_shape e2 c.page_in-3.ensures.stood in
    let s12 = stood_then s1 s2 in
    let k = stood_then s12 s3 in
    let f1 = frame_on s1 c.requires.three.first in
    let f2 = frame_on s12 c.requires.three.second in
    let u = g.R.Rows.view c.page_in-3.new.seat in
    stood_then k (stood_shape e3 c.in-Ok-image.ensures.stood)

pub returns-in-Ok-image-clause-ok : goal.returns-in-Ok-image-clause-ok
returns-in-Ok-image-clause-ok g c =
    let y = g.R.Rows.shape c.args.rows.now in
    let v = g.R.Rows.view c.args.seat.now in
    let e1 = c.page_in.ensures.fits.1 in
    let e2 = c.page_in-2.ensures.fits.1 ∙ e1 in
    let e3 = c.page_in-3.ensures.fits.1 ∙ e2 in
    let s1 = c.page_in.ensures.stood in
    let s2 = stood_shape e1 c.page_in-2.ensures.stood in
    let s3 = stood_shape e2 c.page_in-3.ensures.stood in
    let s12 = stood_then s1 s2 in
    let k = stood_then s12 s3 in
    let f1 = frame_on s1 c.requires.three.first in
    let f2 = frame_on s12 c.requires.three.second in
    let u = g.R.Rows.view c.page_in-3.new.seat in
    let w = g.R.Rows.view c.image.new.seat in
    let s4 = stood_shape e3 c.in-Ok-image.ensures.stood in
    let all = stood_then k s4 in
    let f3 = frame_on k c.requires.three.third in
    let left = stands_on (stood_then (stood_then s2 s3) s4).waited f1.frames f1.mine c.in-Some.ensures.some in
    let right = stands_on (stood_then s3 s4).waited f2.frames f2.mine c.in-Some-page_in.ensures.some in
    let parent = stands_on s4.waited f3.frames f3.mine c.in-Some-page_in-2.ensures.some in
    let own = own_after y.alone v w c.args.worker c.requires.actor all.waited.ran in
    joining_at c.args.worker c.args.first.now.row c.args.second.now.row c.args.third.now.row (record { left = c.in-Some.left; right = c.in-Some-page_in.right; parent = c.in-Some-page_in-2.parent; image = c.in-Ok-image.image })
    (sound_given v w all.waited.ran.given c.requires.sound) (ap (λ (q : Worker). q.is_open) own.worker ∙ c.requires.may.is_open) (subst (λ (q : Worker). q.clock < 2 ^ 62) (sym own.worker) c.requires.may.young) left right parent c.in-Ok-image.ensures.ok c.in-Ok.ensures.ok

pub returns-in-Err-image-clause-err : goal.returns-in-Err-image-clause-err
returns-in-Err-image-clause-err g c =
    let y = g.R.Rows.shape c.args.rows.now in
    let v = g.R.Rows.view c.args.seat.now in
    let e1 = c.page_in.ensures.fits.1 in
    let e2 = c.page_in-2.ensures.fits.1 ∙ e1 in
    let e3 = c.page_in-3.ensures.fits.1 ∙ e2 in
    let s1 = c.page_in.ensures.stood in
    let s2 = stood_shape e1 c.page_in-2.ensures.stood in
    let s3 = stood_shape e2 c.page_in-3.ensures.stood in
    let s12 = stood_then s1 s2 in
    let k = stood_then s12 s3 in
    let f1 = frame_on s1 c.requires.three.first in
    let f2 = frame_on s12 c.requires.three.second in
    let u = g.R.Rows.view c.page_in-3.new.seat in
    let e = c.in-Err-image.ensures.err in
    missed_unfit c.args.first.now.row c.args.second.now.row c.args.third.now.row c.in-Err-image.why e.0 (refused_after k (subst (λ (x : Shape). Refused x.alone u (g.R.Rows.view c.image.new.seat)) e3 e.1))

pub returns-in-Err-clause-err : goal.returns-in-Err-clause-err
returns-in-Err-clause-err g c =
    let y = g.R.Rows.shape c.args.rows.now in
    let v = g.R.Rows.view c.args.seat.now in
    let e1 = c.page_in.ensures.fits.1 in
    let e2 = c.page_in-2.ensures.fits.1 ∙ e1 in
    let e3 = c.page_in-3.ensures.fits.1 ∙ e2 in
    let s1 = c.page_in.ensures.stood in
    let s2 = stood_shape e1 c.page_in-2.ensures.stood in
    let s3 = stood_shape e2 c.page_in-3.ensures.stood in
    let s12 = stood_then s1 s2 in
    let k = stood_then s12 s3 in
    let f1 = frame_on s1 c.requires.three.first in
    let f2 = frame_on s12 c.requires.three.second in
    let u = g.R.Rows.view c.page_in-3.new.seat in
    let left = stands_on (stood_then s2 s3).waited f1.frames f1.mine c.in-Some.ensures.some in
    let right = stands_on s3.waited f2.frames f2.mine c.in-Some-page_in.ensures.some in
    cant_fit c.in-Err.why (sound_after v u k.waited.ran.given c.requires.sound) k left right c.in-Some-page_in-2.ensures.some c.in-Err.ensures.err

pub returns-in-Err-image-clause-quiet : goal.returns-in-Err-image-clause-quiet
returns-in-Err-image-clause-quiet g c alone =
    let v = g.R.Rows.view c.args.seat.now in
    let e1 = c.page_in.ensures.fits.1 in
    let e2 = c.page_in-2.ensures.fits.1 ∙ e1 in
    let s1 = c.page_in.ensures.stood in
    let s2 = stood_shape e1 c.page_in-2.ensures.stood in
    let s3 = stood_shape e2 c.page_in-3.ensures.stood in
    let s12 = stood_then s1 s2 in
    let k = stood_then s12 s3 in
    let f1 = frame_on s1 c.requires.three.first in
    let f2 = frame_on s12 c.requires.three.second in
    let u = g.R.Rows.view c.page_in-3.new.seat in
    let left = stands_on (stood_then s2 s3).waited f1.frames f1.mine c.in-Some.ensures.some in
    let right = stands_on s3.waited f2.frames f2.mine c.in-Some-page_in.ensures.some in
    let parent = c.in-Some-page_in-2.ensures.some in
    let sound = sound_given v u k.waited.ran.given c.requires.sound in
    let can = c.in-Ok.ensures.ok in
    let left_named = leads_to (sound u.seen) c.in-Some-page_in-2.parent parent c.args.first.now.row c.in-Some.left.node.low c.in-Some.left left can.leads_left in
    let right_named = leads_to (sound u.seen) c.in-Some-page_in-2.parent parent c.args.second.now.row c.in-Some-page_in.right.node.low c.in-Some-page_in.right right can.leads_right in
    let none = no_child_beside (three_on k c.requires.three) c.in-Some.left c.in-Some-page_in.right c.in-Some-page_in-2.parent left right parent left_named right_named sound in
    absurd (c.in-Err-image.ensures.quiet (ap (λ (y : Shape). y.alone) (c.page_in-3.ensures.fits.1 ∙ e2) ∙ alone) none)

pub returns-in-Err-image-clause-cause : goal.returns-in-Err-image-clause-cause
returns-in-Err-image-clause-cause g c =
    let e1 = c.page_in.ensures.fits.1 in
    let k = stood_then (stood_then c.page_in.ensures.stood (stood_shape e1 c.page_in-2.ensures.stood)) (stood_shape (c.page_in-2.ensures.fits.1 ∙ e1) c.page_in-3.ensures.stood) in
    caused_before (g.R.Rows.view c.image.new.seat) c.in-Err-image.why k.waited.ran.since c.in-Err-image.ensures.cause

pub returns-in-Err-clause-cause : goal.returns-in-Err-clause-cause
returns-in-Err-clause-cause g c = cant_caused (g.R.Rows.view c.args.seat.now) (g.R.Rows.view c.page_in-3.new.seat) c.args.first.now.row c.args.second.now.row c.args.third.now.row c.in-Some.left c.in-Some-page_in.right c.in-Some-page_in-2.parent c.in-Err.why c.in-Err.ensures.err
