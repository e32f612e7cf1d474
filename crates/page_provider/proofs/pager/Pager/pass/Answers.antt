use Rattle.std.proofs.Common.{◌≡◌, ◌+◌, Option, refl, sym, ap, subst, ◌∙◌, arith}
use Rattle.std.proofs.lemmas.Result.{err_from_is_err_and}
use Rattle.cooling_stage.specs.declared.stage.Cooling.{Cooling}
use Rattle.btree_descent.specs.rows_trait.Views.{Shape}
use Rattle.page_provider.specs.contracts.pager.Pager.{the_view}
use Rattle.page_provider.specs.Cools.{Steps}
use Rattle.page_provider.specs.Finds.{Halts, Stalls}
use Rattle.page_provider.specs.Providers.{Provider}
use Rattle.page_provider.specs.declared.refusal.Refusal.{Refusal}
use Rattle.page_provider.proofs.Hands.{passed_none, passed_on, passed_stalls, passed_step}
use Rattle.page_provider.proofs.Moving.{keeps_hand}
use Rattle.page_provider.proofs.Parts.{keeps_shape}
use Rattle.page_provider.proofs.Savings.{if_err}
use Rattle.page_provider.proofs.pager.Pager.pass.Goals as goal

pub loop-frame-init : goal.loop-frame-init
loop-frame-init g c = record { fits = c.requires.fits; shape = refl; passed = passed_none c.laws.ensures.rows c.requires.keeps c.requires.held (omega arith) }

pub step-requires-clause-fits : goal.step-requires-clause-fits
step-requires-clause-fits g c = c.loop-frame.invariant.fits

pub step-requires-clause-keeps : goal.step-requires-clause-keeps
step-requires-clause-keeps g c =
    let hand = ap (λ (p : Provider). record p { hand = c.loop-frame.frame + 1 }) c.self.view_is in
    keeps_shape c.loop-frame.invariant.shape (keeps_hand hand c.loop-frame.invariant.passed.idle.moved.goes.keeps)

pub step-requires-clause-held : goal.step-requires-clause-held
step-requires-clause-held g c = c.loop-frame.invariant.passed.idle.moved.goes.held

pub step-requires-clause-frame : goal.step-requires-clause-frame
step-requires-clause-frame g c =
    let a = c.loop-frame.invariant.passed.idle.moved.same.frames in
    let b = ap (λ (p : Provider). p.frames) c.self.view_is in
    let d = c.requires.frames in
    omega arith

pub returns-in_err-entry-clause-fits : goal.returns-in_err-entry-clause-fits
returns-in_err-entry-clause-fits g c = (c.in_err-entry.ensures.fits.0, c.in_err-entry.ensures.fits.1 ∙ c.loop-frame.invariant.shape)

pub returns-in_err-entry-clause-err : goal.returns-in_err-entry-clause-err
returns-in_err-entry-clause-err g c =
    let z = g.R.Rows.shape c.args.rows.now in
    let v = g.R.Rows.view c.args.seat.now in
    let u = g.R.Rows.view c.loop-frame.seat in
    let w = g.R.Rows.view c.step.new.seat in
    let hand = ap (λ (p : Provider). record p { hand = c.loop-frame.frame + 1 }) c.self.view_is in
    let p = err_from_is_err_and c.from_residual.result c.from_residual.ensures.1 in
    let p2 = p.2 in
    let why = c.in_err-entry.field-0.0 in
    let e : why ≡ p.0 = cc in
    let P : Refusal → Type 0 = λ q. Stalls 2 z v c.args.self.now q w c.step.new.self in
    let h = subst (λ (s : Shape). Halts 2 s u why w) c.loop-frame.invariant.shape c.in_err-entry.ensures.err in
    if_err c.from_residual.result p.0 P p.1 (subst P e (passed_stalls c.loop-frame.invariant.passed (c.loop-frame.frame + 1) hand (sym c.in_err-entry.ensures.same) h))

pub returns-in-Some-clause-fits : goal.returns-in-Some-clause-fits
returns-in-Some-clause-fits g c = (c.in_ok-entry.ensures.fits.0, c.in_ok-entry.ensures.fits.1 ∙ c.loop-frame.invariant.shape)

pub returns-in-Some-clause-ok : goal.returns-in-Some-clause-ok
returns-in-Some-clause-ok g c =
    let u = g.R.Rows.view c.loop-frame.seat in
    let w = g.R.Rows.view c.step.new.seat in
    let hand = ap (λ (p : Provider). record p { hand = c.loop-frame.frame + 1 }) c.self.view_is in
    passed_step c.laws.ensures.rows c.requires.keeps c.loop-frame.invariant.passed (c.loop-frame.frame + 1) hand
    (subst (λ (q : Shape × Option Cooling). Steps q.0 c.args.path.now c.loop-frame.frame u (record (the_view c.self.inside) { hand = c.loop-frame.frame + 1 }) q.1 w c.step.new.self) (λ i. (c.loop-frame.invariant.shape i, c.in-Some.is i)) c.in_ok-entry.ensures.ok)

pub loop-frame-preserved : goal.loop-frame-preserved
loop-frame-preserved g c =
    let u = g.R.Rows.view c.loop-frame.seat in
    let w = g.R.Rows.view c.step.new.seat in
    let hand = ap (λ (p : Provider). record p { hand = c.loop-frame.frame + 1 }) c.self.view_is in
    record {
      fits = c.in_ok-entry.ensures.fits.0;
      shape = c.in_ok-entry.ensures.fits.1 ∙ c.loop-frame.invariant.shape;
      passed = passed_on c.requires.keeps c.loop-frame.invariant.passed (c.loop-frame.frame + 1) hand
          (subst (λ (q : Shape × Option Cooling). Steps q.0 c.args.path.now c.loop-frame.frame u (record (the_view c.self.inside) { hand = c.loop-frame.frame + 1 }) q.1 w c.step.new.self) (λ i. (c.loop-frame.invariant.shape i, c.in_default.is i)) c.in_ok-entry.ensures.ok);
    }

pub returns-clause-fits : goal.returns-clause-fits
returns-clause-fits g c = (c.loop-frame.invariant.fits, c.loop-frame.invariant.shape)

pub returns-clause-ok : goal.returns-clause-ok
returns-clause-ok g c = (c.loop-frame.invariant.passed.idle, λ one f q a b. c.loop-frame.invariant.passed.shown one f a (omega arith) q)
