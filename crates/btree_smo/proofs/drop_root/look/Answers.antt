use Rattle.std.proofs.Common.{◌^◌, true≢false, ◌∙◌, ◌<◌, ◌≤◌, ap, sym, subst, arith}
use Rattle.btree_descent.specs.core_state.States.{Worker}
use Rattle.btree_descent.specs.rows_trait.Views.{Shape, state}
use Rattle.btree_descent.proofs.lean_proto.Owns.{own_after}
use Rattle.btree_descent.proofs.Calls.{sound_given, sound_after}
use Rattle.held_rows.specs.Rows.{IsFrame}
use Rattle.btree_smo.specs.Inside.{StandsIn}
use Rattle.held_rows.specs.Waits.{stood_then, stood_shape, frame_on}
use Rattle.btree_smo.proofs.Waiting.{stands_on}
use Rattle.btree_smo.proofs.Reading.{refused_after}
use Rattle.btree_smo.proofs.LookingDrop.{not_only, root_spent, none_there, only_named, child_spent, dropping_at, missed_unfit}
use Rattle.btree_smo.proofs.Children.{no_child_under}
use Rattle.held_rows.specs.Waits.{two_on}
use Rattle.btree_smo.proofs.Causes.{caused_before}
use Rattle.btree_smo.proofs.drop_root.look.Goals as goal

pub page_in-requires-2-clause-frame : goal.page_in-requires-2-clause-frame
page_in-requires-2-clause-frame g c =
    subst (λ (y : Shape). IsFrame y (g.R.Rows.view c.page_in.new.seat) c.args.child.now.row) (sym c.page_in.ensures.fits.1) (frame_on c.page_in.ensures.stood c.requires.two.second)

pub page_in-requires-2-clause-sound : goal.page_in-requires-2-clause-sound
page_in-requires-2-clause-sound g c = sound_given (g.R.Rows.view c.args.seat.now) (g.R.Rows.view c.page_in.new.seat) c.page_in.ensures.stood.waited.ran.given c.requires.sound

pub returns-in_default-page_in-clause-err : goal.returns-in_default-page_in-clause-err
returns-in_default-page_in-clause-err g c =
    let k = stood_then c.page_in.ensures.stood (stood_shape c.page_in.ensures.fits.1 c.page_in-2.ensures.stood) in
    let sound = sound_after (g.R.Rows.view c.args.seat.now) (g.R.Rows.view c.page_in-2.new.seat) k.waited.ran.given c.requires.sound in
    (k, none_there c.in_default-page_in.ensures.none)

pub returns-then-not-has_one-clause-err : goal.returns-then-not-has_one-clause-err
returns-then-not-has_one-clause-err g c =
    let s1 = c.page_in.ensures.stood in
    let s2 = stood_shape c.page_in.ensures.fits.1 c.page_in-2.ensures.stood in
    let k = stood_then s1 s2 in
    let w = g.R.Rows.view c.page_in-2.new.seat in
    let sound = sound_after (g.R.Rows.view c.args.seat.now) w k.waited.ran.given c.requires.sound in
    let f = frame_on s1 c.requires.two.first in
    let root = subst (λ q. StandsIn w.given (state w) q c.in-Some.node) c.requires.first (stands_on s2.waited f.frames f.mine c.in-Some.ensures.some) in
    (k, not_only sound c.in-Some.node root c.args.root.now.row c.requires.first (λ h. true≢false (sym (c.has_one.ensures.1 h) ∙ c.if-not-has_one.true)))

pub returns-then-gsn-ge-LAST_NUMBER-clause-err : goal.returns-then-gsn-ge-LAST_NUMBER-clause-err
returns-then-gsn-ge-LAST_NUMBER-clause-err g c =
    let s1 = c.page_in.ensures.stood in
    let s2 = stood_shape c.page_in.ensures.fits.1 c.page_in-2.ensures.stood in
    let k = stood_then s1 s2 in
    let w = g.R.Rows.view c.page_in-2.new.seat in
    let sound = sound_after (g.R.Rows.view c.args.seat.now) w k.waited.ran.given c.requires.sound in
    let f = frame_on s1 c.requires.two.first in
    let root = subst (λ q. StandsIn w.given (state w) q c.in-Some.node) c.requires.first (stands_on s2.waited f.frames f.mine c.in-Some.ensures.some) in
    (k, root_spent sound c.in-Some.node root (subst (λ x. Rattle.btree_descent.specs.declared.put.TheConstants.LAST_NUMBER ≤ x) c.gsn.ensures c.if-gsn-ge-LAST_NUMBER.true))

pub returns-then-gsn-ge-LAST_NUMBER-2-clause-err : goal.returns-then-gsn-ge-LAST_NUMBER-2-clause-err
returns-then-gsn-ge-LAST_NUMBER-2-clause-err g c =
    let s2 = stood_shape c.page_in.ensures.fits.1 c.page_in-2.ensures.stood in
    let k = stood_then c.page_in.ensures.stood s2 in
    let w = g.R.Rows.view c.page_in-2.new.seat in
    let sound = sound_after (g.R.Rows.view c.args.seat.now) w k.waited.ran.given c.requires.sound in
    (k, child_spent c.in-Some-page_in.only c.in-Some-page_in.ensures.some (subst (λ x. Rattle.btree_descent.specs.declared.put.TheConstants.LAST_NUMBER ≤ x) c.gsn-2.ensures c.if-gsn-ge-LAST_NUMBER-2.true))

pub image-requires-clause-sound : goal.image-requires-clause-sound
image-requires-clause-sound g c =
    let k = stood_then c.page_in.ensures.stood (stood_shape c.page_in.ensures.fits.1 c.page_in-2.ensures.stood) in
    sound_given (g.R.Rows.view c.args.seat.now) (g.R.Rows.view c.page_in-2.new.seat) k.waited.ran.given c.requires.sound

pub image-requires-clause-frame : goal.image-requires-clause-frame
image-requires-clause-frame g c =
    let k = stood_then c.page_in.ensures.stood (stood_shape c.page_in.ensures.fits.1 c.page_in-2.ensures.stood) in
    subst (λ (y : Shape). IsFrame y (g.R.Rows.view c.page_in-2.new.seat) c.args.child.now.row) (sym (c.page_in-2.ensures.fits.1 ∙ c.page_in.ensures.fits.1)) (frame_on k c.requires.two.second)

pub image-requires-clause-stands : goal.image-requires-clause-stands
image-requires-clause-stands g c = c.in-Some-page_in.ensures.some

pub returns-in-Ok-clause-stood : goal.returns-in-Ok-clause-stood
returns-in-Ok-clause-stood g c =
    let k = stood_then c.page_in.ensures.stood (stood_shape c.page_in.ensures.fits.1 c.page_in-2.ensures.stood) in
    stood_then k (stood_shape (c.page_in-2.ensures.fits.1 ∙ c.page_in.ensures.fits.1) c.in-Ok.ensures.stood)

pub returns-in-Ok-clause-ok : goal.returns-in-Ok-clause-ok
returns-in-Ok-clause-ok g c =
    let y = g.R.Rows.shape c.args.rows.now in
    let v = g.R.Rows.view c.args.seat.now in
    let w = g.R.Rows.view c.image.new.seat in
    let s1 = c.page_in.ensures.stood in
    let s2 = stood_shape c.page_in.ensures.fits.1 c.page_in-2.ensures.stood in
    let s3 = stood_shape (c.page_in-2.ensures.fits.1 ∙ c.page_in.ensures.fits.1) c.in-Ok.ensures.stood in
    let f1 = frame_on s1 c.requires.two.first in
    let f2 = frame_on (stood_then s1 s2) c.requires.two.second in
    let k = stood_then (stood_then s1 s2) s3 in
    let s23 = stood_then s2 s3 in
    let root = subst (λ q. StandsIn w.given (state w) q c.in-Some.node) c.requires.first (stands_on s23.waited f1.frames f1.mine c.in-Some.ensures.some) in
    let child = stands_on s3.waited f2.frames f2.mine c.in-Some-page_in.ensures.some in
    let own = own_after y.alone v w c.args.worker c.requires.actor k.waited.ran in
    let a : c.in-Some.node.gsn < Rattle.btree_descent.specs.declared.put.TheConstants.LAST_NUMBER = (let e = c.gsn.ensures in let h = c.if-gsn-ge-LAST_NUMBER.false in omega arith) in
    let b : c.in-Some-page_in.only.gsn < Rattle.btree_descent.specs.declared.put.TheConstants.LAST_NUMBER = (let e = c.gsn-2.ensures in let h = c.if-gsn-ge-LAST_NUMBER-2.false in omega arith) in
    dropping_at c.args.worker c.args.child.now.row (record { root = c.in-Some.node; child = c.in-Some-page_in.only; image = c.in-Ok.image }) (sound_given v w k.waited.ran.given c.requires.sound) (ap (λ (q : Worker). q.is_open) own.worker ∙ c.requires.may.is_open) (subst (λ (q : Worker). q.clock < 2 ^ 62) (sym own.worker) c.requires.may.young)
    root child c.in-Ok.ensures.ok (c.has_one.ensures.0 c.if-not-has_one.false) a b

pub returns-in-Err-clause-err : goal.returns-in-Err-clause-err
returns-in-Err-clause-err g c =
    let k = stood_then c.page_in.ensures.stood (stood_shape c.page_in.ensures.fits.1 c.page_in-2.ensures.stood) in
    let e = c.in-Err.ensures.err in
    missed_unfit c.args.child.now.row c.in-Err.why e.0 (refused_after k (subst (λ (y : Shape). Rattle.held_rows.specs.Latching.Refused y.alone (g.R.Rows.view c.page_in-2.new.seat) (g.R.Rows.view c.image.new.seat)) (c.page_in-2.ensures.fits.1 ∙ c.page_in.ensures.fits.1) e.1))

pub returns-in-Err-clause-quiet : goal.returns-in-Err-clause-quiet
returns-in-Err-clause-quiet g c alone =
    let e1 = c.page_in.ensures.fits.1 in
    let s1 = c.page_in.ensures.stood in
    let s2 = stood_shape e1 c.page_in-2.ensures.stood in
    let k = stood_then s1 s2 in
    let v = g.R.Rows.view c.args.seat.now in
    let u = g.R.Rows.view c.page_in-2.new.seat in
    let f1 = frame_on s1 c.requires.two.first in
    let root = stands_on s2.waited f1.frames f1.mine c.in-Some.ensures.some in
    let sound = sound_given v u k.waited.ran.given c.requires.sound in
    let zero = subst (λ q. StandsIn u.given (state u) q c.in-Some.node) c.requires.first root in
    let above = only_named (sound u.seen) c.in-Some.node zero c.in-Some-page_in.only c.in-Some-page_in.ensures.some (c.has_one.ensures.0 c.if-not-has_one.false) in
    let none = no_child_under (two_on k c.requires.two) c.in-Some.node c.in-Some-page_in.only root c.in-Some-page_in.ensures.some above sound in
    absurd (c.in-Err.ensures.quiet (ap (λ (y : Shape). y.alone) (c.page_in-2.ensures.fits.1 ∙ e1) ∙ alone) none)

pub returns-in-Err-clause-cause : goal.returns-in-Err-clause-cause
returns-in-Err-clause-cause g c = caused_before (g.R.Rows.view c.image.new.seat) c.in-Err.why (stood_then c.page_in.ensures.stood (stood_shape c.page_in.ensures.fits.1 c.page_in-2.ensures.stood)).waited.ran.since c.in-Err.ensures.cause
