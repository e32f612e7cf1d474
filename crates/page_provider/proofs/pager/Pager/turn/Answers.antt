use Rattle.std.proofs.Common.{Option, ap, subst, ◌∙◌}
use Rattle.std.proofs.lemmas.Result.{IfErr-weaker, IfOk-weaker}
use Rattle.cooling_stage.specs.declared.stage.Cooling.{Cooling}
use Rattle.btree_descent.specs.rows_trait.Views.{Shape}
use Rattle.page_provider.specs.Cools.{Passes, Turns}
use Rattle.page_provider.specs.Finds.{Stalls}
use Rattle.page_provider.specs.Providers.{Provider}
use Rattle.page_provider.specs.declared.refusal.Refusal.{Refusal}
use Rattle.page_provider.proofs.Hands.{stalls_behind, turned}
use Rattle.page_provider.proofs.pager.Pager.turn.Goals as goal

pub returns-clause-ok : goal.returns-clause-ok
returns-clause-ok g c =
    let z = g.R.Rows.shape c.args.rows.now in
    let v = g.R.Rows.view c.args.seat.now in
    let t = g.R.Rows.view c.pass.new.seat in
    let u = g.R.Rows.view c.pass-2.new.seat in
    let start = c.if-self-frames.start in
    let frames = c.frames-frames.result in
    let first = subst (λ d. Passes z c.args.path.now start frames v c.args.self.now d t c.pass.new.self) c.in_default.is c.in_ok-entry.ensures.ok in
    let P : Option Cooling → Type 0 = λ done. Passes (g.R.Rows.shape c.pass.new.rows) c.args.path.now 0 start t c.pass.new.self done u c.pass-2.new.self in
    let Q : Option Cooling → Type 0 = λ done. Turns z c.args.path.now v c.args.self.now done u c.pass-2.new.self in
    IfOk-weaker c.pass-2.result P Q (λ done h. turned c.args.path.now start c.laws.ensures.rows c.requires.keeps (c.frames-frames.ensures ∙ ap (λ (p : Provider). p.frames) c.self.view_is) first u c.pass-2.new.self done
    (subst (λ (s : Shape). Passes s c.args.path.now 0 start t c.pass.new.self done u c.pass-2.new.self) c.in_ok-entry.ensures.fits.1 h)) c.pass-2.ensures.ok

pub returns-clause-err : goal.returns-clause-err
returns-clause-err g c =
    let z = g.R.Rows.shape c.args.rows.now in
    let v = g.R.Rows.view c.args.seat.now in
    let t = g.R.Rows.view c.pass.new.seat in
    let u = g.R.Rows.view c.pass-2.new.seat in
    let start = c.if-self-frames.start in
    let frames = c.frames-frames.result in
    let first = subst (λ d. Passes z c.args.path.now start frames v c.args.self.now d t c.pass.new.self) c.in_default.is c.in_ok-entry.ensures.ok in
    let P : Refusal → Type 0 = λ why. Stalls 2 (g.R.Rows.shape c.pass.new.rows) t c.pass.new.self why u c.pass-2.new.self in
    let Q : Refusal → Type 0 = λ why. Stalls 2 z v c.args.self.now why u c.pass-2.new.self in
    IfErr-weaker c.pass-2.result P Q (λ why h. stalls_behind first.0 (subst (λ (s : Shape). Stalls 2 s t c.pass.new.self why u c.pass-2.new.self) c.in_ok-entry.ensures.fits.1 h)) c.pass-2.ensures.err
