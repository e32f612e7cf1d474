use Rattle.std.proofs.Common.{◌≡◌, ◌∙◌, refl, sym, subst}
use Rattle.std.proofs.lemmas.Result.{err_from_is_err_and, IfOk-weaker}
use Rattle.btree_descent.specs.rows_trait.Views.{Shape}
use Rattle.page_provider.specs.Evicts.{HasStayed}
use Rattle.page_provider.specs.Inside.{HasCleared, HasGone}
use Rattle.page_provider.specs.Providers.{Provider}
use Rattle.page_provider.specs.declared.refusal.Refusal.{Refusal}
use Rattle.page_provider.proofs.Outcomes.{stayed_saved}
use Rattle.page_provider.proofs.Parts.{cause_to, err_to, keeps_shape, leave_disk, saved_well, cause_up}
use Rattle.page_provider.proofs.Running.{disked_then}
use Rattle.page_provider.proofs.Savings.{frame_is, if_err}
use Rattle.page_provider.proofs.Mirrored.{leave_mirrored, mirrored_then}
use Rattle.page_provider.proofs.Unwritten.{left_unsaved, unsaved_then}
use Rattle.page_provider.proofs.pager.Pager.leave_dirty.Goals as goal

pub leave-requires-clause-keeps : goal.leave-requires-clause-keeps
leave-requires-clause-keeps g c = keeps_shape c.in_ok-save.ensures.fits.1 c.in_ok-save.ensures.ok.goes.keeps

pub leave-requires-clause-held : goal.leave-requires-clause-held
leave-requires-clause-held g c = c.in_ok-save.ensures.ok.goes.held

pub leave-requires-clause-entered : goal.leave-requires-clause-entered
leave-requires-clause-entered g c = c.in_ok-save.ensures.ok.entered

pub leave-requires-clause-clean : goal.leave-requires-clause-clean
leave-requires-clause-clean g c = c.in_ok-save.ensures.ok.clean

pub returns-in_err-save-clause-err : goal.returns-in_err-save-clause-err
returns-in_err-save-clause-err g c =
    let z = g.R.Rows.shape c.args.rows.now in
    let v = g.R.Rows.view c.args.seat.now in
    let w = g.R.Rows.view c.save.new.seat in
    let p = err_from_is_err_and c.from_residual.result c.from_residual.ensures.1 in
    let p2 = p.2 in
    let why = c.in_err-save.field-0.0 in
    let e : why ≡ p.0 = cc in
    let P : Refusal → Type 0 = λ q. HasStayed z v c.args.self.now c.args.entry.page q w c.save.new.self in
    if_err c.from_residual.result p.0 P p.1 (subst P e c.in_err-save.ensures.err)

pub returns-clause-ok : goal.returns-clause-ok
returns-clause-ok g c =
    let t = g.R.Rows.view c.save.new.seat in
    let w = g.R.Rows.view c.leave.new.seat in
    let mid = c.save.new.self in
    let P : Unit {0} → Type 0 = λ _. HasGone (g.R.Rows.shape c.save.new.rows) t mid c.args.entry w c.leave.new.self in
    let Q : Unit {0} → Type 0 = λ _. HasCleared (g.R.Rows.shape c.args.rows.now) (g.R.Rows.view c.args.seat.now) c.args.self.now c.args.entry w c.leave.new.self in
    IfOk-weaker c.leave.result P Q (λ _ h. record {
      behind = t;
      mid = mid;
      saved = c.in_ok-save.ensures.ok;
      gone = subst (λ (s : Shape). HasGone s t mid c.args.entry w c.leave.new.self) c.in_ok-save.ensures.fits.1 h;
    }) c.leave.ensures.ok

pub returns-clause-err : goal.returns-clause-err
returns-clause-err g c =
    let z = g.R.Rows.shape c.args.rows.now in
    let v = g.R.Rows.view c.args.seat.now in
    let t = g.R.Rows.view c.save.new.seat in
    let w = g.R.Rows.view c.leave.new.seat in
    let k = c.in_ok-save.ensures.ok in
    let P : Refusal → Type 0 = λ why. HasStayed (g.R.Rows.shape c.save.new.rows) t c.save.new.self c.args.entry.page why w c.leave.new.self in
    let Q : Refusal → Type 0 = λ why. HasStayed z v c.args.self.now c.args.entry.page why w c.leave.new.self in
    err_to P Q c.leave.result (λ why same h. subst (λ (p : Provider). HasStayed z v c.args.self.now c.args.entry.page why w p) (sym same)
    (stayed_saved k.goes.ran c.requires.dirty k.clean (frame_is k.goes.keeps k.entered refl ∙ sym (frame_is c.requires.keeps c.requires.entered refl)) k.pool (subst (λ (q : Shape × Provider). HasStayed q.0 t c.save.new.self c.args.entry.page why w q.1) (λ i. (c.in_ok-save.ensures.fits.1 i, same i)) h)))
    c.leave.ensures.same c.leave.ensures.err

pub returns-clause-disk : goal.returns-clause-disk
returns-clause-disk g c =
    let k = c.in_ok-save.ensures.ok in
    disked_then c.laws.ensures.disk (saved_well k c.requires.well) c.in_ok-save.ensures.disk
    (leave_disk c.args.entry c.laws.ensures.disk (g.met.P.Part.lawful c.save.new.dev) c.in_ok-save.ensures.fits.1 k.clean c.leave.result c.leave.ensures.ok c.leave.ensures.err c.leave.ensures.same)

pub returns-clause-cause : goal.returns-clause-cause
returns-clause-cause g c = cause_to c.in_ok-save.ensures.cause (λ e. cc) c.leave.ensures.device

pub returns-clause-mirrors : goal.returns-clause-mirrors
returns-clause-mirrors g c =
    let k = c.in_ok-save.ensures.ok in
    mirrored_then (saved_well k c.requires.well) c.in_ok-save.ensures.mirrors
    (leave_mirrored c.args.entry (keeps_shape c.in_ok-save.ensures.fits.1 k.goes.keeps) k.clean c.leave.result c.leave.ensures.ok c.leave.ensures.err c.leave.ensures.same)

pub returns-clause-reads : goal.returns-clause-reads
returns-clause-reads g c =
    unsaved_then c.save.new.self (saved_well c.in_ok-save.ensures.ok c.requires.well) c.in_ok-save.ensures.reads (left_unsaved (g.R.Rows.shape c.save.new.rows) c.save.new.self c.args.entry (g.met.P.Part.lawful c.save.new.dev) c.leave.result c.leave.ensures.ok c.leave.ensures.err)

pub returns-in_err-save-clause-cause : goal.returns-in_err-save-clause-cause
returns-in_err-save-clause-cause g c =
    let p = err_from_is_err_and c.from_residual.result c.from_residual.ensures.1 in
    let p2 = p.2 in
    let why = c.in_err-save.field-0.0 in
    let e : why ≡ p.0 = cc in
    cause_up c.from_residual.result refl p.1 e c.in_err-save.ensures.cause

pub leave-requires-clause-fits : goal.leave-requires-clause-fits
leave-requires-clause-fits g c = c.in_ok-save.ensures.fits.0

pub returns-clause-fits : goal.returns-clause-fits
returns-clause-fits g c = let o = c.in_ok-save.ensures.fits in let e = c.leave.ensures.fits in (e.0, e.1 ∙ o.1)
