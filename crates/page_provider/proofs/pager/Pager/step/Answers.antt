use Rattle.std.proofs.Common.{◌∙◌, Option, subst, ap}
use Rattle.std.proofs.lemmas.Result.{IfErr-weaker, IfOk-weaker}
use Rattle.cooling_stage.specs.declared.stage.Cooling.{Cooling}
use Rattle.btree_descent.specs.rows_trait.Views.{Shape}
use Rattle.page_provider.specs.Cools.{Steps}
use Rattle.page_provider.specs.Finds.{Halts}
use Rattle.page_provider.specs.declared.refusal.Refusal.{Refusal}
use Rattle.page_provider.proofs.Hands.{candidate_none, halts_behind, steps_behind}
use Rattle.page_provider.proofs.Keeping.{keeps_ran}
use Rattle.page_provider.proofs.Parts.{keeps_shape}
use Rattle.page_provider.specs.Providers.{Provider}
use Rattle.page_provider.proofs.Asks.{sized_of}
use Rattle.page_provider.proofs.pager.Pager.step.Goals as goal

pub returns-then-not-branch-clause-ok : goal.returns-then-not-branch-clause-ok
returns-then-not-branch-clause-ok g c =
    let o = c.in_ok-is_hot.ensures in
    candidate_none c.args.path.now c.laws.ensures.rows c.requires.keeps (o.fits.2 ∙ c.requires.held) (o.kept.ran, λ only. o.ok c.if-not-branch.true)

pub step_from-requires-clause-keeps : goal.step_from-requires-clause-keeps
step_from-requires-clause-keeps g c =
    let laws = c.laws.ensures.rows in
    let o = c.in_ok-is_hot.ensures in
    keeps_shape o.fits.1 (keeps_ran laws.stood laws.standing tt o.kept.ran c.requires.keeps)

pub returns-clause-ok : goal.returns-clause-ok
returns-clause-ok g c =
    let z = g.R.Rows.shape c.args.rows.now in
    let v = g.R.Rows.view c.args.seat.now in
    let t = g.R.Rows.view c.is_hot.new.seat in
    let u = g.R.Rows.view c.step_from.new.seat in
    let o = c.in_ok-is_hot.ensures in
    let P : Option Cooling → Type 0 = λ done. Steps (g.R.Rows.shape c.is_hot.new.rows) c.args.path.now c.args.frame t c.args.self.now done u c.step_from.new.self in
    let Q : Option Cooling → Type 0 = λ done. Steps z c.args.path.now c.args.frame v c.args.self.now done u c.step_from.new.self in
    IfOk-weaker c.step_from.result P Q (λ done x. steps_behind c.args.frame c.args.path.now u c.step_from.new.self c.laws.ensures.rows c.requires.keeps (o.fits.2 ∙ c.requires.held) o.kept.ran done (subst (λ (s : Shape). Steps s c.args.path.now c.args.frame t c.args.self.now done u c.step_from.new.self) o.fits.1 x)) c.step_from.ensures.ok

pub returns-clause-err : goal.returns-clause-err
returns-clause-err g c =
    let z = g.R.Rows.shape c.args.rows.now in
    let v = g.R.Rows.view c.args.seat.now in
    let t = g.R.Rows.view c.is_hot.new.seat in
    let u = g.R.Rows.view c.step_from.new.seat in
    let o = c.in_ok-is_hot.ensures in
    let P : Refusal → Type 0 = λ why. Halts 2 (g.R.Rows.shape c.is_hot.new.rows) t why u in
    let Q : Refusal → Type 0 = λ why. Halts 2 z v why u in
    IfErr-weaker c.step_from.result P Q (λ why h. halts_behind o.kept.ran (subst (λ (s : Shape). Halts 2 s t why u) o.fits.1 h)) c.step_from.ensures.err

pub is_hot-requires-clause-sized : goal.is_hot-requires-clause-sized
is_hot-requires-clause-sized g c = sized_of c.requires.keeps (c.frames.ensures ∙ ap (λ (p : Provider). p.frames) c.self.view_is)

pub step_from-requires-clause-fits : goal.step_from-requires-clause-fits
step_from-requires-clause-fits g c = c.in_ok-is_hot.ensures.fits.0

pub step_from-requires-clause-held : goal.step_from-requires-clause-held
step_from-requires-clause-held g c = c.in_ok-is_hot.ensures.fits.2 ∙ c.requires.held

pub returns-clause-fits : goal.returns-clause-fits
returns-clause-fits g c = let o = c.in_ok-is_hot.ensures.fits in let e = c.step_from.ensures.fits in (e.0, e.1 ∙ o.1)
