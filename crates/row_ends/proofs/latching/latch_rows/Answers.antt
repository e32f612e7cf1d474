use Rattle.std.proofs.Common.{refl, sym, ap, ◌∙◌, inr, subst, ◌<◌, ⊎_elim, arith}
use Rattle.map_model.specs.Lists.{Has}
use Rattle.session_state.specs.rows_trait.Views.{Shape}
use Rattle.row_ends.proofs.LatchLemmas.{Stopped, has_at, has_none, latched_less, latched_more, place, sized_on, start_latching, stopped}
use Rattle.session_state.proofs.Moments.{acts}
use Rattle.row_ends.proofs.latching.latch_rows.Goals as goal

pub loop-at-init : goal.loop-at-init
loop-at-init g c = record {
  fits = (c.requires.fits, refl);
  latching = start_latching c.args.session.now.frames c.args.session.now.held c.args.latches.now (g.R.Rows.view c.args.seat.now) c.requires.mine c.requires.among;
  all = λ i of_it. inr of_it;
}

pub latch-requires-clause-fits : goal.latch-requires-clause-fits
latch-requires-clause-fits g c = c.loop-at.invariant.fits.0

pub latch-requires-clause-sized : goal.latch-requires-clause-sized
latch-requires-clause-sized g c =
    let l = c.loop-at.invariant.latching in
    sized_on (g.R.Rows.shape c.args.rows.now) (g.R.Rows.shape c.loop-at.rows) (g.R.Rows.view c.args.seat.now) (g.R.Rows.view c.loop-at.seat) c.args.session.now.own c.args.session.now.frames c.args.session.now.held.count _ c.loop-at.invariant.fits.1 l.given l.mine.many c.requires.locks

pub latch-requires-clause-actor : goal.latch-requires-clause-actor
latch-requires-clause-actor g c = acts (g.R.Rows.shape c.loop-at.rows) (g.R.Rows.view c.loop-at.seat) c.args.session.now.own (ap (λ (z : Shape). z.alone) c.loop-at.invariant.fits.1 ∙ c.requires.alone)

pub latch-requires-clause-tied : goal.latch-requires-clause-tied
latch-requires-clause-tied g c = c.loop-at.invariant.latching.mine.latched

pub loop-at-preserved : goal.loop-at-preserved
loop-at-preserved g c =
    let i = c.loop-at.invariant in
    let y = g.R.Rows.shape c.args.rows.now in
    let z = g.R.Rows.shape c.loop-at.rows in
    let v = g.R.Rows.view c.args.seat.now in
    let u = g.R.Rows.view c.loop-at.seat in
    let w = g.R.Rows.view c.latch.new.seat in
    let h = c.args.session.now.held in
    let q = c.in_default.ensures in
    let lt : c.loop-at.at < _ = subst (λ n. c.loop-at.at < n) c.len-at-end.ensures c.loop-at-test.true in
    let r = c.row-row.result in
    let key = place c.from.result h.count c.loop-at.latches (subst (λ n. n < h.count) (sym c.from.ensures) c.row-row.ensures.within) i.latching.mine.many ∙ c.from.ensures in
    let more = latched_more z.alone c.args.session.now.frames h c.loop-at.at r _ c.loop-at.latches c.latch.new.self v u w (ap (λ (s : Shape). s.alone) i.fits.1 ∙ c.requires.alone) lt c.row-row.ensures.at c.row-row.ensures.within key q.ok.0 q.ok.1 q.tied q.rest
    i.latching i.all (subst (λ k. Has k h.rows) (sym c.row-row.ensures.at) (has_at h.rows c.loop-at.at lt)) in record {
      fits = (q.fits.0, q.fits.1 ∙ i.fits.1);
      latching = more.0;
      all = more.1;
    }

stop : (g : _) (c : goal.After-versions g) → Stopped (g.R.Rows.view c.loop-at.seat) (g.R.Rows.view c.latch.new.seat)
stop g c =
    let z = g.R.Rows.shape c.loop-at.rows in
    let one = ap (λ (s : Shape). s.alone) c.loop-at.invariant.fits.1 ∙ c.requires.alone in
    let q = c.in-Err.ensures in
    stopped c.every_low.ensures z.alone c.args.session.now.own _ (g.R.Rows.view c.loop-at.seat) (g.R.Rows.view c.latch.new.seat) c.in-Err.field-0 one q.err (q.quiet one)

pub returns-in-Err-clause-fits : goal.returns-in-Err-clause-fits
returns-in-Err-clause-fits g c = (c.in-Err.ensures.fits.0, c.in-Err.ensures.fits.1 ∙ c.loop-at.invariant.fits.1)

pub returns-in-Err-clause-latching : goal.returns-in-Err-clause-latching
returns-in-Err-clause-latching g c =
    latched_less c.args.session.now.frames c.args.session.now.held c.loop-at.latches c.latch.new.self (g.R.Rows.view c.args.seat.now) (g.R.Rows.view c.loop-at.seat) (g.R.Rows.view c.latch.new.seat) c.in-Err.ensures.same.0 c.in-Err.ensures.same.1 (stop g c) c.loop-at.invariant.latching

pub returns-in-Err-clause-spent : goal.returns-in-Err-clause-spent
returns-in-Err-clause-spent g c _ = (stop g c).many c.versions.ensures.low

pub returns-clause-all : goal.returns-clause-all
returns-clause-all g c _ i of_it =
    let n = c.len-at-end.ensures in
    let past = c.loop-at-test.false in
    let most = c.loop-at.auto.at-end in
    ⊎_elim (λ on. on) (λ left. absurd (has_none c.args.session.now.held.rows c.loop-at.at i (omega arith) left)) (c.loop-at.invariant.all i of_it)
