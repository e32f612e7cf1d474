use Rattle.std.proofs.Common.{◌≡◌, ◌∙◌, ◌^◌, ◌<◌, ◌+◌, ◌⊎◌, [], ◌∷◌, arith, inl, inr, refl, subst, ap}
use Rattle.lean_proto.specs.rows_trait.declared.view.Act.TheVariants.{Hear}
use Rattle.lean_proto.specs.rows_trait.Views.{Shape}
use Rattle.lean_proto.specs.rows_trait.Turns.{Heard}
use Rattle.lean_proto.proofs.rows_trait.Runs.{ran_append}
use Rattle.epochs.proofs.Entering.{heard_ran}
use Rattle.epochs.proofs.Waits.{judging_none, judging_more, ripens_all, inside_with, not_held}
use Rattle.epochs.proofs.judging.ripe.Goals as goal
use Rattle.epochs.proofs.judging.ripe.Goals.{else-local-via-then-local+else-local-epoch, else-local-via-else-local}

pub loop-worker-init : goal.loop-worker-init
loop-worker-init g c = record {
  fits = (c.requires.fits, refl);
  judging = judging_none (g.R.Rows.shape c.args.rows.now) (g.R.Rows.view c.args.seat.now) c.args.epoch;
}

pub returns-then-local-epoch-clause-after : goal.returns-then-local-epoch-clause-after
returns-then-local-epoch-clause-after g c =
    let z = g.R.Rows.shape c.args.rows.now in
    let v = g.R.Rows.view c.args.seat.now in
    let u = g.R.Rows.view c.loop-worker.seat in
    let x = g.R.Rows.view c.load_control-local.new.seat in
    let k = c.loop-worker.invariant.judging in
    let h = subst (λ (s : Shape). Heard s (c.loop-worker.worker + 1) 2 (λ _. []) u c.load_control-local.result x) c.loop-worker.invariant.fits.1 c.load_control-local.ensures.step in
    let few = c.loop-worker-test.true in
    record {
      ran = ran_append z.alone v [] u [] x k.ran (heard_ran z (c.loop-worker.worker + 1) 2 c.load_control-local.result u x h);
      held = h.held ∙ k.held;
      judged = record {
        some = omega arith;
        few = omega arith;
        early = c.if-local-epoch.true;
        inside = inside_with z u x (c.loop-worker.worker + 1) c.load_control-local.result (omega arith) c.if-local.true h;
        acts = k.acts;
        loaded = h.steps ∙ ap (λ l. Hear (c.loop-worker.worker + 1) 2 c.load_control-local.result ∷ l) k.steps;
      };
    }

pub returns-then-local-epoch-clause-quiet : goal.returns-then-local-epoch-clause-quiet
returns-then-local-epoch-clause-quiet g c alone none =
    let z = g.R.Rows.shape c.args.rows.now in
    let v = g.R.Rows.view c.args.seat.now in
    let u = g.R.Rows.view c.loop-worker.seat in
    let x = g.R.Rows.view c.load_control-local.new.seat in
    let k = c.loop-worker.invariant.judging in
    let n = c.loop-worker.worker + 1 in
    let e = c.load_control-local.result in
    let h = subst (λ (s : Shape). Heard s n 2 (λ _. []) u e x) c.loop-worker.invariant.fits.1 c.load_control-local.ensures.step in
    absurd (not_held c.every_epoch.ensures z v x n e alone none (ran_append z.alone v [] u [] x k.ran (heard_ran z n 2 e u x h)) (inside_with z u x n e (omega arith) c.if-local.true h))

pub loop-worker-preserved : goal.loop-worker-preserved
loop-worker-preserved g c =
    let z = g.R.Rows.shape c.args.rows.now in
    let v = g.R.Rows.view c.args.seat.now in
    let u = g.R.Rows.view c.loop-worker.seat in
    let x = g.R.Rows.view c.load_control-local.new.seat in
    let h = subst (λ (s : Shape). Heard s (c.loop-worker.worker + 1) 2 (λ _. []) u c.load_control-local.result x) c.loop-worker.invariant.fits.1 c.load_control-local.ensures.step in
    let later : (c.load_control-local.result ≡ 2 ^ 63) ⊎ (c.args.epoch < c.load_control-local.result) = elim c.else-local.branch [
      | else-local-via-then-local+else-local-epoch w ↦ (let q = w.if-local-epoch.false in inr (omega arith))
      | else-local-via-else-local w ↦ inl w.if-local.false
    ] in
    record {
      fits = (c.load_control-local.ensures.fits, c.load_control-local.ensures.shape ∙ c.loop-worker.invariant.fits.1);
      judging = judging_more c.every_epoch.ensures c.every_stood.ensures z v u x c.loop-worker.worker c.args.epoch c.load_control-local.result c.requires.judge c.loop-worker.invariant.judging h later;
    }

pub returns-clause-after : goal.returns-clause-after
returns-clause-after g c =
    let z = g.R.Rows.shape c.args.rows.now in
    let v = g.R.Rows.view c.args.seat.now in
    let u = g.R.Rows.view c.loop-worker.seat in
    let k = c.loop-worker.invariant.judging in
    record { ran = k.ran; held = k.held; judged = λ p w few low. ripens_all c.every_stood.ensures z v u c.loop-worker.worker c.args.epoch c.requires.judge k p w (let a = c.loop-worker-test.false in omega arith) low }
