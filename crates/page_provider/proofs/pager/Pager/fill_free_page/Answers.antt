use Rattle.std.proofs.Common.{◌∙◌, ◌-◌, [], ◌∷◌, take, ap, subst, arith, ◌≡◌}
use Rattle.btree_descent.specs.row_words.declared.event.Event.TheVariants.{Load}
use Rattle.btree_descent.specs.rows_trait.Turns.{Ran}
use Rattle.btree_descent.specs.rows_trait.Views.{Shape}
use Rattle.btree_descent.proofs.rows_trait.Runs.{ran_append}
use Rattle.page_provider.specs.Providers.{Provider}
use Rattle.page_provider.proofs.Coming.{can_fill_free, comes_within, empty_is, filled_free, halts_missed}
use Rattle.page_provider.proofs.Asks.{one_held, sized_of}
use Rattle.page_provider.specs.declared.refusal.Refusal.{Refusal}
use Rattle.page_provider.proofs.Savings.{if_err}
use Rattle.std.proofs.lemmas.Result.{err_from_is_err_and}
use Rattle.page_provider.specs.Finds.{Halts}
use Rattle.page_provider.proofs.pager.Pager.fill_free_page.Goals as goal

pub take-requires-clause-frame : goal.take-requires-clause-frame
take-requires-clause-frame g c =
    let a = (empty_is c.requires.keeps c.requires.comes).0 in
    let b = c.requires.keeps.sized.given in
    let d = ap (λ (p : Provider). p.frames) c.self.view_is in
    let e = c.frames.ensures in
    omega arith

pub fill_free-requires-clause-fills : goal.fill_free-requires-clause-fills
fill_free-requires-clause-fills g c =
    let h = c.in_ok-own.ensures.ok in
    can_fill_free c.laws.ensures.rows c.requires.keeps c.requires.comes c.requires.free h.1.ran c.in_ok-own.ensures.fits.1 h.0

pub returns-clause-ok : goal.returns-clause-ok
returns-clause-ok g c =
    let z = g.R.Rows.shape c.args.rows.now in
    let v = g.R.Rows.view c.args.seat.now in
    let t = g.R.Rows.view c.take.new.seat in
    let w = g.R.Rows.view c.fill_free.new.seat in
    let went = c.fill_free.ensures.went in
    let h = c.in_ok-own.ensures.ok in
    let ran = subst (λ row. Ran (g.R.Rows.shape c.take.new.rows).alone t (Load c.args.page row ∷ []) w) h.0 went.ran in
    let all = ran_append z.alone v [] t (Load c.args.page c.args.frame ∷ []) w h.1.ran (subst (λ (s : Shape). Ran s.alone t (Load c.args.page c.args.frame ∷ []) w) c.in_ok-own.ensures.fits.1 ran) in
    filled_free c.self.view_is c.laws.ensures.rows c.requires.keeps went.held c.requires.comes c.requires.free all c.pop.new.self.items (let p = c.self.inside.empty.ok.0 in c.pop.ensures.rest ∙ ap (λ n. take (n - 1) c.self.inside.empty.items) p) c.remove.new.self c.remove.ensures c.come.new.self c.come.ensures

pub come-requires : goal.come-requires
come-requires g c = record { within = comes_within c.self.view_is c.requires.keeps c.requires.comes }

pub take-requires-clause-sized : goal.take-requires-clause-sized
take-requires-clause-sized g c = sized_of c.requires.keeps (c.frames.ensures ∙ ap (λ (p : Provider). p.frames) c.self.view_is)

pub fill_free-requires-clause-one : goal.fill_free-requires-clause-one
fill_free-requires-clause-one g c = let o = c.in_ok-own.ensures in one_held o.fits.1 o.ok.0 o.ok.1.one

pub returns-clause-fits : goal.returns-clause-fits
returns-clause-fits g c = (c.fill_free.ensures.fits.0, c.fill_free.ensures.fits.1 ∙ c.in_ok-own.ensures.fits.1)

pub returns-in_err-own-clause-err : goal.returns-in_err-own-clause-err
returns-in_err-own-clause-err g c =
    let p = err_from_is_err_and c.from_residual.result c.from_residual.ensures.1 in
    let p2 = p.2 in
    let why = c.in_err-own.field-0.0 in
    let e : why ≡ p.0 = cc in
    let P : Refusal → Type 0 = λ q. Halts 2 (g.R.Rows.shape c.args.rows.now) (g.R.Rows.view c.args.seat.now) q (g.R.Rows.view c.take.new.seat) in
    if_err c.from_residual.result p.0 P p.1 (subst P e (halts_missed c.requires.held c.in_err-own.ensures.err))
