use Rattle.std.proofs.Common.{◌<◌, ◌^◌, ◌∙◌, ℕ, ap, refl, sym, subst, arith}
use Rattle.btree_descent.specs.core_state.States.{Worker}
use Rattle.btree_descent.specs.rows_trait.Views.{Shape}
use Rattle.btree_descent.proofs.lean_proto.Owns.{own_after}
use Rattle.btree_descent.proofs.Calls.{frame_row, frames_after, sound_given}
use Rattle.btree_descent.proofs.Spots.{draws_after}
use Rattle.held_rows.specs.Rows.{HoldsTwo}
use Rattle.btree_smo.specs.Drops.{Lowered}
use Rattle.btree_smo.proofs.Answering.{missed_few}
use Rattle.btree_smo.proofs.AnsweringDrop.{missed_lowered, lowered_after}
use Rattle.btree_smo.proofs.Causes.{caused_before}
use Rattle.btree_smo.proofs.drop_root.drop_root.Goals as goal

pub latch_two-requires-clause-frames : goal.latch_two-requires-clause-frames
latch_two-requires-clause-frames g c =
    let z = g.R.Rows.shape c.args.rows.now in
    let v = g.R.Rows.view c.args.seat.now in
    let n = c.args.frames in
    (record { frames = frames_after z v v n 0 refl c.requires.sized c.requires.sized.some; inside = (frame_row z v n 0 c.requires.sized c.requires.sized.some).0; wide = (frame_row z v n 0 c.requires.sized c.requires.sized.some).1 }, record { frames = frames_after z v v n c.args.frame refl c.requires.sized c.requires.frame; inside = (frame_row z v n c.args.frame c.requires.sized c.requires.frame).0; wide = (frame_row z v n c.args.frame c.requires.sized c.requires.frame).1 })

pub returns-in-Err-clause-lowered : goal.returns-in-Err-clause-lowered
returns-in-Err-clause-lowered g c =
    let d = c.args.draw.now in
    let e = c.in-Err.ensures.err in
    missed_lowered c.args.worker c.args.frame (g.D.Draw.staged_of d) (g.D.Draw.staged_of d) (g.D.Draw.clock_of d) c.in-Err.why e.0 (missed_few 2 (omega arith) e.1)

pub drop_held-requires-clause-sound : goal.drop_held-requires-clause-sound
drop_held-requires-clause-sound g c = sound_given (g.R.Rows.view c.args.seat.now) (g.R.Rows.view c.latch_two.new.seat) c.in-Ok.ensures.ok.2.ran.given c.requires.sound

pub drop_held-requires-clause-two : goal.drop_held-requires-clause-two
drop_held-requires-clause-two g c =
    let o = c.in-Ok.ensures in
    subst (λ (s : Shape × ℕ × ℕ). HoldsTwo s.0 (g.R.Rows.view c.latch_two.new.seat) s.1 s.2) (λ i. (sym o.fits.1 i, sym o.ok.0 i, sym o.ok.1 i)) o.ok.2.two

pub drop_held-requires-clause-may : goal.drop_held-requires-clause-may
drop_held-requires-clause-may g c =
    let own = own_after (g.R.Rows.shape c.args.rows.now).alone (g.R.Rows.view c.args.seat.now) (g.R.Rows.view c.latch_two.new.seat) c.args.worker c.requires.actor c.in-Ok.ensures.ok.2.ran in
    record { is_open = ap (λ (q : Worker). q.is_open) own.worker ∙ c.requires.may.is_open; small = c.requires.may.small; young = subst (λ (q : Worker). q.clock < 2 ^ 62) (sym own.worker) c.requires.may.young }

pub drop_held-requires-clause-draws : goal.drop_held-requires-clause-draws
drop_held-requires-clause-draws g c =
    let d = c.args.draw.now in
    draws_after (g.R.Rows.shape c.args.rows.now).alone (g.R.Rows.view c.args.seat.now) (g.R.Rows.view c.latch_two.new.seat) c.args.worker (g.D.Draw.log_of d) (g.D.Draw.txn_of d) (g.D.Draw.clock_of d) (g.D.Draw.last_of d) c.requires.actor c.in-Ok.ensures.ok.2.ran c.requires.draws

pub returns-clause-lowered : goal.returns-clause-lowered
returns-clause-lowered g c =
    let u = g.R.Rows.view c.latch_two.new.seat in
    let x = g.R.Rows.view c.drop_held.new.seat in
    let rs = g.D.Draw.staged_of c.args.draw.now in
    let now = g.D.Draw.staged_of c.drop_held.new.draw in
    let clock = g.D.Draw.clock_of c.drop_held.new.draw in
    let o = c.in-Ok.ensures in
    lowered_after c.args.worker c.args.frame x rs now clock c.drop_held.result o.ok.2.ran
    (subst (λ (q : Shape × ℕ). Lowered q.0.alone c.args.worker q.1 u rs c.drop_held.result x clock now) (λ i. (o.fits.1 i, o.ok.1 i)) c.drop_held.ensures.lowered)

pub returns-in-Err-clause-quiet : goal.returns-in-Err-clause-quiet
returns-in-Err-clause-quiet g c alone ne = c.in-Err.ensures.quiet alone (λ e. ne (sym e))

pub returns-clause-quiet : goal.returns-clause-quiet
returns-clause-quiet g c alone ne = c.drop_held.ensures.quiet (ap (λ (y : Shape). y.alone) c.in-Ok.ensures.fits.1 ∙ alone)

pub returns-in-Err-clause-cause : goal.returns-in-Err-clause-cause
returns-in-Err-clause-cause g c = c.in-Err.ensures.cause

pub returns-clause-cause : goal.returns-clause-cause
returns-clause-cause g c = caused_before (g.R.Rows.view c.drop_held.new.seat) c.drop_held.result c.in-Ok.ensures.ok.2.ran.since c.drop_held.ensures.cause
