use Rattle.std.proofs.Common.{refl, sym, ap, ◌∙◌, subst, ◌<◌, arith}
use Rattle.session_state.specs.rows_trait.Views.{Shape}
use Rattle.row_ends.proofs.LatchLemmas.{all_missed, missed_more, place, spans_on, start_missing, unmarked}
use Rattle.row_ends.proofs.latching.unlatch_rows.Goals as goal

pub loop-at-init : goal.loop-at-init
loop-at-init g c = record {
  fits = (c.requires.fits, refl);
  missing = start_missing c.args.frames c.args.held.now c.args.latches.now (g.R.Rows.view c.args.seat.now) c.requires.mine c.requires.among;
}

pub unlatch-requires-clause-fits : goal.unlatch-requires-clause-fits
unlatch-requires-clause-fits g c = c.loop-at.invariant.fits.0

pub unlatch-requires-clause-tied : goal.unlatch-requires-clause-tied
unlatch-requires-clause-tied g c = c.loop-at.invariant.missing.mine.latched

pub unlatch-requires-clause-spans : goal.unlatch-requires-clause-spans
unlatch-requires-clause-spans g c = spans_on (g.R.Rows.shape c.args.rows.now) (g.R.Rows.shape c.loop-at.rows) c.args.frames c.args.held.now.count _ c.loop-at.invariant.fits.1 c.loop-at.invariant.missing.mine.many c.requires.spans

pub loop-at-preserved : goal.loop-at-preserved
loop-at-preserved g c =
    let i = c.loop-at.invariant in
    let z = g.R.Rows.shape c.loop-at.rows in
    let v = g.R.Rows.view c.args.seat.now in
    let u = g.R.Rows.view c.loop-at.seat in
    let w = g.R.Rows.view c.unlatch.new.seat in
    let h = c.args.held.now in
    let q = c.unlatch.ensures in
    let lt = subst (λ n. c.loop-at.at < n) c.len-at-end.ensures c.loop-at-test.true in
    let key = place c.from.result h.count c.loop-at.latches (subst (λ n. n < h.count) (sym c.from.ensures) c.row-row.ensures.within) i.missing.mine.many ∙ c.from.ensures in record {
      fits = (q.fits.0, q.fits.1 ∙ i.fits.1);
      missing = missed_more z.alone c.args.frames h c.loop-at.at c.row-row.result _ c.loop-at.latches c.unlatch.new.self v u w (ap (λ (s : Shape). s.alone) i.fits.1 ∙ c.requires.alone) lt c.row-row.ensures.at c.row-row.ensures.within key q.marks q.tied q.rest q.ran q.nothing i.missing;
    }

pub returns-clause-unmarked : goal.returns-clause-unmarked
returns-clause-unmarked g c =
    let n = c.len-at-end.ensures in
    let past = c.loop-at-test.false in
    let most = c.loop-at.auto.at-end in
    let m = c.loop-at.invariant.missing in
    unmarked c.args.frames c.args.held.now c.loop-at.at c.loop-at.latches (g.R.Rows.view c.loop-at.seat).held m.mine m.left (omega arith)

pub returns-clause-missed : goal.returns-clause-missed
returns-clause-missed g c =
    let n = c.len-at-end.ensures in
    let past = c.loop-at-test.false in
    let most = c.loop-at.auto.at-end in
    all_missed c.args.frames c.args.held.now c.loop-at.at c.loop-at.latches (g.R.Rows.view c.args.seat.now) (g.R.Rows.view c.loop-at.seat) (omega arith) c.loop-at.invariant.missing
