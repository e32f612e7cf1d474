use Rattle.std.proofs.Common.{◌+◌, ◌∙◌, [], subst}
use Rattle.session_state.specs.rows_trait.Turns.{Heard}
use Rattle.row_ends.proofs.BeginLemmas.{least_more, looked_more}
use Rattle.row_ends.proofs.begins.least_flushed.Goals as goal

pub loop-log-preserved : goal.loop-log-preserved
loop-log-preserved g c =
    let z = g.R.Rows.shape c.args.rows.now in
    let v = g.R.Rows.view c.args.seat.now in
    let u = g.R.Rows.view c.loop-log.seat in
    let w = g.R.Rows.view c.load_control-flushed.new.seat in
    let n = c.load_control-flushed.result in
    let before = c.loop-log.invariant in
    let e = subst (λ y. Heard y (c.loop-log.log + 1) 0 (λ _. []) u n w) before.fits.1 c.load_control-flushed.ensures.step in
    record {
      fits = (c.load_control-flushed.ensures.fits, c.load_control-flushed.ensures.shape ∙ before.fits.1);
      seen = λ alone. looked_more z v u w (c.loop-log.log + 1) n alone (before.seen alone) e;
      least = λ alone. least_more z v u w c.loop-log.log n c.loop-log.least c.lesser-least.result alone (before.seen alone) e (before.least alone) c.lesser-least.ensures;
    }
