use Rattle.std.proofs.Common.{◌≡◌, ◌∙◌, ◌+◌, [], arith, sym, ap, subst}
use Rattle.btree_descent.specs.rows_trait.Turns.{Heard}
use Rattle.btree_descent.specs.rows_trait.Views.{Shape}
use Rattle.page_provider.specs.Providers.{Provider}
use Rattle.page_provider.proofs.Flushing.{IsLow, low_first, low_flushed, low_more}
use Rattle.page_provider.proofs.pager.Pager.flushed.Goals as goal

pub loop-worker-init : goal.loop-worker-init
loop-worker-init g c = record {
  fits = (c.load_control-least.ensures.fits, c.load_control-least.ensures.shape);
  low = low_first c.laws.ensures.rows c.load_control-least.ensures.step;
}

pub load_control-requires-clause-fits : goal.load_control-requires-clause-fits
load_control-requires-clause-fits g c = c.loop-worker.invariant.fits.0

pub load_control-requires-clause-place : goal.load_control-requires-clause-place
load_control-requires-clause-place g c =
    let a = ap (λ (p : Provider). p.workers) c.self.view_is in
    let b = c.requires.keeps.workers.0 in
    let d = ap (λ (s : Shape). s.sizes.workers) c.loop-worker.invariant.fits.1 in
    let e = c.loop-worker-test.true in
    (omega arith, Rattle.page_provider.proofs.Flushing.some_words c.loop-worker.worker)

pub loop-worker-preserved : goal.loop-worker-preserved
loop-worker-preserved g c =
    let u = g.R.Rows.view c.loop-worker.seat in
    let x = g.R.Rows.view c.load_control.new.seat in
    let h = subst (λ (s : Shape). Heard s (c.loop-worker.worker + 1) 0 (λ _. []) u c.load_control.result x) c.loop-worker.invariant.fits.1 c.load_control.ensures.step in
    record {
      fits = (c.load_control.ensures.fits, c.load_control.ensures.shape ∙ c.loop-worker.invariant.fits.1);
      low = subst (λ n. IsLow (g.R.Rows.shape c.args.rows.now) (g.R.Rows.view c.args.seat.now) (c.loop-worker.worker + 1) n x) (sym c.min-least.ensures) (low_more c.laws.ensures.rows c.requires.held c.loop-worker.invariant.low h);
    }

pub returns-clause-fits : goal.returns-clause-fits
returns-clause-fits g c = c.loop-worker.invariant.fits

pub returns-clause-answer : goal.returns-clause-answer
returns-clause-answer g c =
    let a : c.self.inside.workers ≡ c.args.self.now.workers = ap (λ (p : Provider). p.workers) c.self.view_is in
    let some = c.requires.keeps.some in
    let e = c.loop-worker-test.false in
    let few = c.loop-worker.auto.worker-end in
    let all : c.loop-worker.worker ≡ c.args.self.now.workers = omega arith in
    let l = c.loop-worker.invariant.low in
    record { ran = l.ran; held = l.held; is = low_flushed c.requires.keeps all l }
