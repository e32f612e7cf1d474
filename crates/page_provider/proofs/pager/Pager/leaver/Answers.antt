use Rattle.std.proofs.Common.{◌≡◌, ◌∙◌, ◌⊎◌, inl, inr, length, refl, sym, subst}
use Rattle.std.proofs.lemmas.Result.{err_from_is_err_and, IfErr-weaker, IfOk-weaker}
use Rattle.btree_descent.specs.rows_trait.declared.view.View.{View}
use Rattle.btree_descent.specs.rows_trait.Views.{Shape}
use Rattle.page_provider.specs.declared.leaving.Chosen.{Chosen}
use Rattle.page_provider.specs.declared.leaving.Chosen.TheVariants as chosen
use Rattle.page_provider.specs.declared.refusal.Refusal.{Refusal}
use Rattle.page_provider.specs.Cools.{Chills}
use Rattle.page_provider.specs.Ends.{HasRefused}
use Rattle.page_provider.specs.Leaves.{Chooses, Chose, HasHalted, IsFlushed, MissedLater, NoOther}
use Rattle.page_provider.specs.Providers.{Provider}
use Rattle.page_provider.proofs.Chilling.{chills_then}
use Rattle.page_provider.proofs.Emptying.{chose_chills, chose_flushed, flushed_keeps, later_missed, then_halted, then_refused}
use Rattle.page_provider.proofs.Parts.{keeps_shape}
use Rattle.page_provider.proofs.Savings.{if_err}
use Rattle.page_provider.proofs.pager.Pager.leaver.Goals as goal

-- a choice, said of the rows as they were at the beginning
chose : {y z : Shape} {u x : View} {k : Provider} {done : Chosen} (answer : Chosen) → y ≡ z → done ≡ answer → Chose y u k done x → Chose z u k answer x
chose {u = u} {x = x} {k = k} answer shape same t = subst (λ (s : Shape × Chosen). Chose s.0 u k s.1 x) (λ i. (shape i, same i)) t

pub choose-requires-clause-keeps : goal.choose-requires-clause-keeps
choose-requires-clause-keeps g c = keeps_shape c.flushed-flushed.ensures.fits.1 (flushed_keeps c.laws.ensures.rows c.requires.keeps c.requires.held c.flushed-flushed.ensures.answer)

pub returns-in_err-entry-clause-err : goal.returns-in_err-entry-clause-err
returns-in_err-entry-clause-err g c =
    let z = g.R.Rows.shape c.args.rows.now in
    let v = g.R.Rows.view c.args.seat.now in
    let u = g.R.Rows.view c.flushed-flushed.new.seat in
    let w = g.R.Rows.view c.choose.new.seat in
    let k = c.args.self.now in
    let p = err_from_is_err_and c.from_residual.result c.from_residual.ensures.1 in
    let p2 = p.2 in
    let why = c.in_err-entry.field-0.0 in
    let e : why ≡ p.0 = cc in
    let P : Refusal → Type 0 = λ q. HasRefused 3 z c.args.path.now v k q w k in
    let m = subst (λ (y : Shape). MissedLater y u why w) c.flushed-flushed.ensures.fits.1 c.in_err-entry.ensures.err in
    if_err c.from_residual.result p.0 P p.1 (subst P e (later_missed c.laws.ensures.rows c.requires.keeps c.requires.held c.flushed-flushed.ensures.answer c.args.path.now m).0)

pub returns-in_err-entry-clause-halted : goal.returns-in_err-entry-clause-halted
returns-in_err-entry-clause-halted g c =
    let z = g.R.Rows.shape c.args.rows.now in
    let v = g.R.Rows.view c.args.seat.now in
    let u = g.R.Rows.view c.flushed-flushed.new.seat in
    let w = g.R.Rows.view c.choose.new.seat in
    let k = c.args.self.now in
    let p = err_from_is_err_and c.from_residual.result c.from_residual.ensures.1 in
    let p2 = p.2 in
    let why = c.in_err-entry.field-0.0 in
    let e : why ≡ p.0 = cc in
    let P : Refusal → Type 0 = λ q. HasHalted z v k q w k in
    let m = subst (λ (y : Shape). MissedLater y u why w) c.flushed-flushed.ensures.fits.1 c.in_err-entry.ensures.err in
    if_err c.from_residual.result p.0 P p.1 (subst P e (later_missed c.laws.ensures.rows c.requires.keeps c.requires.held c.flushed-flushed.ensures.answer c.args.path.now m).1)

pub chill_until-requires-clause-keeps : goal.chill_until-requires-clause-keeps
chill_until-requires-clause-keeps g c =
    let a = chose (chosen.Nobody c.in-Nobody.held) c.flushed-flushed.ensures.fits.1 c.in-Nobody.is c.in_ok-entry.ensures.ok in
    keeps_shape (c.choose.ensures.fits.1 ∙ c.flushed-flushed.ensures.fits.1) (chose_chills c.laws.ensures.rows c.requires.keeps c.requires.held c.flushed-flushed.ensures.answer c.args.path.now a).moved.goes.keeps

pub chill_until-requires-clause-flushed : goal.chill_until-requires-clause-flushed
chill_until-requires-clause-flushed g c =
    let a = chose (chosen.Nobody c.in-Nobody.held) c.flushed-flushed.ensures.fits.1 c.in-Nobody.is c.in_ok-entry.ensures.ok in
    subst (λ (y : Shape). IsFlushed y c.flushed-flushed.result (g.R.Rows.view c.choose.new.seat)) (sym (c.choose.ensures.fits.1 ∙ c.flushed-flushed.ensures.fits.1))
    (chose_flushed c.laws.ensures.rows c.requires.keeps c.requires.held c.flushed-flushed.ensures.answer c.args.path.now a)

pub returns-in-Page-clause-ok : goal.returns-in-Page-clause-ok
returns-in-Page-clause-ok g c =
    let a = chose (chosen.Page c.in-Page.entry) c.flushed-flushed.ensures.fits.1 c.in-Page.is c.in_ok-entry.ensures.ok in
    (chose_chills c.laws.ensures.rows c.requires.keeps c.requires.held c.flushed-flushed.ensures.answer c.args.path.now a, a.chooses)

pub returns-in-Nobody-clause-ok : goal.returns-in-Nobody-clause-ok
returns-in-Nobody-clause-ok g c =
    let z = g.R.Rows.shape c.args.rows.now in
    let v = g.R.Rows.view c.args.seat.now in
    let x = g.R.Rows.view c.choose.new.seat in
    let w = g.R.Rows.view c.chill_until.new.seat in
    let k = c.args.self.now in
    let is = c.chill_until.new.self in
    let y = g.R.Rows.shape c.choose.new.rows in
    let path = c.args.path.now in
    let a = chose (chosen.Nobody c.in-Nobody.held) c.flushed-flushed.ensures.fits.1 c.in-Nobody.is c.in_ok-entry.ensures.ok in
    let first = chose_chills c.laws.ensures.rows c.requires.keeps c.requires.held c.flushed-flushed.ensures.answer path a in
    let P : Chosen → Type 0 = λ answer. Chills y path x k w is × Chooses y is answer w in
    let Q : Chosen → Type 0 = λ answer. Chills z path v k w is × Chooses z is answer w in
    IfOk-weaker c.chill_until.result P Q
    (λ answer h. let both = subst (λ (s : Shape). Chills s path x k w is × Chooses s is answer w) (c.choose.ensures.fits.1 ∙ c.flushed-flushed.ensures.fits.1) h in (chills_then first both.0, both.1))
    c.chill_until.ensures.ok

pub returns-in-Nobody-clause-err : goal.returns-in-Nobody-clause-err
returns-in-Nobody-clause-err g c =
    let z = g.R.Rows.shape c.args.rows.now in
    let v = g.R.Rows.view c.args.seat.now in
    let x = g.R.Rows.view c.choose.new.seat in
    let w = g.R.Rows.view c.chill_until.new.seat in
    let k = c.args.self.now in
    let is = c.chill_until.new.self in
    let y = g.R.Rows.shape c.choose.new.rows in
    let path = c.args.path.now in
    let a = chose (chosen.Nobody c.in-Nobody.held) c.flushed-flushed.ensures.fits.1 c.in-Nobody.is c.in_ok-entry.ensures.ok in
    let first = chose_chills c.laws.ensures.rows c.requires.keeps c.requires.held c.flushed-flushed.ensures.answer path a in
    let P : Refusal → Type 0 = λ why. HasRefused 3 y path x k why w is in
    let Q : Refusal → Type 0 = λ why. HasRefused 3 z path v k why w is in
    IfErr-weaker c.chill_until.result P Q (λ why h. then_refused c.laws.ensures.rows first (subst (λ (s : Shape). HasRefused 3 s path x k why w is) (c.choose.ensures.fits.1 ∙ c.flushed-flushed.ensures.fits.1) h)) c.chill_until.ensures.err

pub returns-in-Nobody-clause-halted : goal.returns-in-Nobody-clause-halted
returns-in-Nobody-clause-halted g c =
    let z = g.R.Rows.shape c.args.rows.now in
    let v = g.R.Rows.view c.args.seat.now in
    let x = g.R.Rows.view c.choose.new.seat in
    let w = g.R.Rows.view c.chill_until.new.seat in
    let k = c.args.self.now in
    let is = c.chill_until.new.self in
    let y = g.R.Rows.shape c.choose.new.rows in
    let path = c.args.path.now in
    let a = chose (chosen.Nobody c.in-Nobody.held) c.flushed-flushed.ensures.fits.1 c.in-Nobody.is c.in_ok-entry.ensures.ok in
    let first = chose_chills c.laws.ensures.rows c.requires.keeps c.requires.held c.flushed-flushed.ensures.answer path a in
    let P : Refusal → Type 0 = λ why. HasHalted y x k why w is in
    let Q : Refusal → Type 0 = λ why. HasHalted z v k why w is in
    IfErr-weaker c.chill_until.result P Q (λ why h. then_halted c.laws.ensures.rows first (subst (λ (s : Shape). HasHalted s x k why w is) (c.choose.ensures.fits.1 ∙ c.flushed-flushed.ensures.fits.1) h)) c.chill_until.ensures.halted

pub returns-in-Page-clause-others : goal.returns-in-Page-clause-others
returns-in-Page-clause-others g c = inl refl

pub returns-in-Nobody-clause-others : goal.returns-in-Nobody-clause-others
returns-in-Nobody-clause-others g c =
    let z = g.R.Rows.shape c.args.rows.now in
    let w = g.R.Rows.view c.chill_until.new.seat in
    let k = c.args.self.now in
    let is = c.chill_until.new.self in
    let y = g.R.Rows.shape c.choose.new.rows in
    let P : Chosen → Type 0 = λ answer. NoOther y w answer in
    let Q : Chosen → Type 0 = λ answer. (length is.queue ≡ length k.queue) ⊎ NoOther z w answer in
    IfOk-weaker c.chill_until.result P Q (λ answer h. inr (subst (λ (s : Shape). NoOther s w answer) (c.choose.ensures.fits.1 ∙ c.flushed-flushed.ensures.fits.1) h)) c.chill_until.ensures.others
