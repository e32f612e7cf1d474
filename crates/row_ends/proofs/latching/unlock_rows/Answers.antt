use Rattle.std.proofs.Common.{refl, sym, ap, ◌∙◌, subst, ◌<◌, arith}
use Rattle.session_state.specs.rows_trait.Views.{Shape}
use Rattle.row_ends.proofs.LatchLemmas.{all_gave, closed_on, end_on, gave_more, place, sized_on, start_giving, unmarked}
use Rattle.session_state.proofs.Moments.{acts}
use Rattle.row_ends.proofs.latching.unlock_rows.Goals as goal

pub loop-at-init : goal.loop-at-init
loop-at-init g c = record {
  fits = (c.requires.fits, refl);
  giving = start_giving c.args.session.now.own c.args.session.now.frames c.args.session.now.held c.args.latches.now (g.R.Rows.view c.args.seat.now) c.requires.mine c.requires.among c.requires.held;
}

pub unlock-requires-clause-fits : goal.unlock-requires-clause-fits
unlock-requires-clause-fits g c = c.loop-at.invariant.fits.0

pub unlock-requires-clause-tied : goal.unlock-requires-clause-tied
unlock-requires-clause-tied g c = c.loop-at.invariant.giving.mine.latched

pub unlock-requires-clause-sized : goal.unlock-requires-clause-sized
unlock-requires-clause-sized g c =
    let l = c.loop-at.invariant.giving in
    sized_on (g.R.Rows.shape c.args.rows.now) (g.R.Rows.shape c.loop-at.rows) (g.R.Rows.view c.args.seat.now) (g.R.Rows.view c.loop-at.seat) c.args.session.now.own c.args.session.now.frames c.args.session.now.held.count _ c.loop-at.invariant.fits.1 l.gives.given l.mine.many c.requires.locks

pub unlock-requires-clause-actor : goal.unlock-requires-clause-actor
unlock-requires-clause-actor g c = acts (g.R.Rows.shape c.loop-at.rows) (g.R.Rows.view c.loop-at.seat) c.args.session.now.own (ap (λ (s : Shape). s.alone) c.loop-at.invariant.fits.1 ∙ c.requires.alone)

pub unlock-requires-clause-ended : goal.unlock-requires-clause-ended
unlock-requires-clause-ended g c =
    let v = g.R.Rows.view c.args.seat.now in
    let u = g.R.Rows.view c.loop-at.seat in
    let l = c.loop-at.invariant.giving in
    (closed_on c.args.session.now.own v u l.rows l.gives c.requires.ended.0, c.requires.ended.1 ∙ sym (end_on c.args.session.now.own v u l.rows l.gives))

pub unlock-requires-clause-holder : goal.unlock-requires-clause-holder
unlock-requires-clause-holder g c on = c.loop-at.invariant.giving.held _ ∙ on

pub loop-at-preserved : goal.loop-at-preserved
loop-at-preserved g c =
    let i = c.loop-at.invariant in
    let z = g.R.Rows.shape c.loop-at.rows in
    let v = g.R.Rows.view c.args.seat.now in
    let u = g.R.Rows.view c.loop-at.seat in
    let w = g.R.Rows.view c.unlock.new.seat in
    let h = c.args.session.now.held in
    let q = c.unlock.ensures in
    let lt = subst (λ n. c.loop-at.at < n) c.len-at-end.ensures c.loop-at-test.true in
    let key = place c.from.result h.count c.loop-at.latches (subst (λ n. n < h.count) (sym c.from.ensures) c.row-row.ensures.within) i.giving.mine.many ∙ c.from.ensures in record {
      fits = (q.fits.0, q.fits.1 ∙ i.fits.1);
      giving = gave_more z.alone c.args.session.now.own c.args.session.now.frames h c.loop-at.at c.row-row.result _ c.args.«end» c.loop-at.latches c.unlock.new.self v u w (ap (λ (s : Shape). s.alone) i.fits.1 ∙ c.requires.alone) lt c.row-row.ensures.at c.row-row.ensures.within key q.marks q.tied q.rest c.requires.ended.0 c.requires.ended.1 q.given_up q.nothing i.giving;
    }

pub returns-clause-unmarked : goal.returns-clause-unmarked
returns-clause-unmarked g c =
    let n = c.len-at-end.ensures in
    let past = c.loop-at-test.false in
    let most = c.loop-at.auto.at-end in
    let m = c.loop-at.invariant.giving in
    unmarked c.args.session.now.frames c.args.session.now.held c.loop-at.at c.loop-at.latches (g.R.Rows.view c.loop-at.seat).held m.mine m.left (omega arith)

pub returns-clause-gave : goal.returns-clause-gave
returns-clause-gave g c =
    let n = c.len-at-end.ensures in
    let past = c.loop-at-test.false in
    let most = c.loop-at.auto.at-end in
    all_gave c.args.session.now.own c.args.session.now.frames c.args.session.now.held c.loop-at.at c.loop-at.latches (g.R.Rows.view c.args.seat.now) (g.R.Rows.view c.loop-at.seat) (omega arith) c.loop-at.invariant.giving
