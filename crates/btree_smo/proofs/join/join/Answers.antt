use Rattle.std.proofs.Common.{◌<◌, ◌^◌, ◌∙◌, ℕ, ap, refl, sym, subst, arith}
use Rattle.btree_descent.specs.core_state.States.{Worker}
use Rattle.btree_descent.specs.rows_trait.Views.{Shape}
use Rattle.btree_descent.proofs.lean_proto.Owns.{own_after}
use Rattle.btree_descent.proofs.Calls.{frame_row, frames_after, sound_given}
use Rattle.btree_descent.proofs.Spots.{draws_after}
use Rattle.held_rows.specs.Rows.{HoldsThree}
use Rattle.btree_smo.specs.Joins.{Merged}
use Rattle.btree_smo.proofs.Answering.{missed_few}
use Rattle.btree_smo.proofs.AnsweringJoin.{missed_merged, merged_after}
use Rattle.btree_smo.proofs.Causes.{caused_before}
use Rattle.btree_smo.proofs.join.join.Goals as goal

pub latch_three-requires-clause-frames : goal.latch_three-requires-clause-frames
latch_three-requires-clause-frames g c =
    let z = g.R.Rows.shape c.args.rows.now in
    let v = g.R.Rows.view c.args.seat.now in
    let n = c.args.frames in (
      record { frames = frames_after z v v n c.args.left refl c.requires.sized c.requires.left; inside = (frame_row z v n c.args.left c.requires.sized c.requires.left).0; wide = (frame_row z v n c.args.left c.requires.sized c.requires.left).1 },
      record { frames = frames_after z v v n c.args.right refl c.requires.sized c.requires.right; inside = (frame_row z v n c.args.right c.requires.sized c.requires.right).0; wide = (frame_row z v n c.args.right c.requires.sized c.requires.right).1 },
      record { frames = frames_after z v v n c.args.parent refl c.requires.sized c.requires.parent; inside = (frame_row z v n c.args.parent c.requires.sized c.requires.parent).0; wide = (frame_row z v n c.args.parent c.requires.sized c.requires.parent).1 },
    )

pub returns-in-Err-clause-merged : goal.returns-in-Err-clause-merged
returns-in-Err-clause-merged g c =
    let d = c.args.draw.now in
    let e = c.in-Err.ensures.err in
    missed_merged c.args.worker c.args.left c.args.right c.args.parent (g.D.Draw.staged_of d) (g.D.Draw.staged_of d) (g.D.Draw.clock_of d) c.in-Err.why e.0 (missed_few 3 (omega arith) e.1)

pub join_held-requires-clause-sound : goal.join_held-requires-clause-sound
join_held-requires-clause-sound g c = sound_given (g.R.Rows.view c.args.seat.now) (g.R.Rows.view c.latch_three.new.seat) c.in-Ok.ensures.ok.3.ran.given c.requires.sound

pub join_held-requires-clause-three : goal.join_held-requires-clause-three
join_held-requires-clause-three g c =
    let o = c.in-Ok.ensures in
    subst (λ (s : Shape × ℕ × ℕ × ℕ). HoldsThree s.0 (g.R.Rows.view c.latch_three.new.seat) s.1 s.2 s.3) (λ i. (sym o.fits.1 i, sym o.ok.0 i, sym o.ok.1 i, sym o.ok.2 i)) o.ok.3.three

pub join_held-requires-clause-may : goal.join_held-requires-clause-may
join_held-requires-clause-may g c =
    let own = own_after (g.R.Rows.shape c.args.rows.now).alone (g.R.Rows.view c.args.seat.now) (g.R.Rows.view c.latch_three.new.seat) c.args.worker c.requires.actor c.in-Ok.ensures.ok.3.ran in
    record { is_open = ap (λ (q : Worker). q.is_open) own.worker ∙ c.requires.may.is_open; small = c.requires.may.small; young = subst (λ (q : Worker). q.clock < 2 ^ 62) (sym own.worker) c.requires.may.young }

pub join_held-requires-clause-draws : goal.join_held-requires-clause-draws
join_held-requires-clause-draws g c =
    let d = c.args.draw.now in
    draws_after (g.R.Rows.shape c.args.rows.now).alone (g.R.Rows.view c.args.seat.now) (g.R.Rows.view c.latch_three.new.seat) c.args.worker (g.D.Draw.log_of d) (g.D.Draw.txn_of d) (g.D.Draw.clock_of d) (g.D.Draw.last_of d) c.requires.actor c.in-Ok.ensures.ok.3.ran c.requires.draws

pub returns-clause-merged : goal.returns-clause-merged
returns-clause-merged g c =
    let u = g.R.Rows.view c.latch_three.new.seat in
    let x = g.R.Rows.view c.join_held.new.seat in
    let rs = g.D.Draw.staged_of c.args.draw.now in
    let now = g.D.Draw.staged_of c.join_held.new.draw in
    let clock = g.D.Draw.clock_of c.join_held.new.draw in
    let o = c.in-Ok.ensures in
    merged_after c.args.worker c.args.left c.args.right c.args.parent x rs now clock c.join_held.result o.ok.3.ran
    (subst (λ (q : Shape × ℕ × ℕ × ℕ). Merged q.0.alone c.args.worker q.1 q.2 q.3 u rs c.join_held.result x clock now) (λ i. (o.fits.1 i, o.ok.0 i, o.ok.1 i, o.ok.2 i)) c.join_held.ensures.merged)

pub returns-in-Err-clause-quiet : goal.returns-in-Err-clause-quiet
returns-in-Err-clause-quiet g c alone lr lp rp = c.in-Err.ensures.quiet alone lr lp rp

pub returns-clause-quiet : goal.returns-clause-quiet
returns-clause-quiet g c alone lr lp rp = c.join_held.ensures.quiet (ap (λ (y : Shape). y.alone) c.in-Ok.ensures.fits.1 ∙ alone)

pub returns-in-Err-clause-cause : goal.returns-in-Err-clause-cause
returns-in-Err-clause-cause g c = c.in-Err.ensures.cause

pub returns-clause-cause : goal.returns-clause-cause
returns-clause-cause g c = caused_before (g.R.Rows.view c.join_held.new.seat) c.join_held.result c.in-Ok.ensures.ok.3.ran.since c.join_held.ensures.cause
