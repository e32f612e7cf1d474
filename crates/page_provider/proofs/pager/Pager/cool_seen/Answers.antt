use Rattle.std.proofs.Common.{◌≡◌, ◌∙◌, ◌<◌, ◌≤◌, inr, Bool, true, false, rules, refl, sym, ap, subst}
use Rattle.std.proofs.lemmas.Result.{err_from_is_err_and}
use Rattle.btree_descent.specs.row_words.declared.given.Given.{Given}
use Rattle.btree_descent.specs.row_words.Openings.{opening}
use Rattle.btree_descent.specs.rows_trait.Views.{Shape}
use Rattle.epochs.specs.Epochs.{HasTicked}
use Rattle.cooling_stage.specs.declared.stage.Cooling.{Cooling}
use Rattle.page_provider.specs.Cools.{HasUnhooked, Idle, Unhooks}
use Rattle.page_provider.specs.Finds.{IsSeen, SinceFound, Stopped}
use Rattle.page_provider.specs.declared.refusal.Refusal.{Refusal}
use Rattle.page_provider.proofs.Keeping.{keeps_ran}
use Rattle.page_provider.proofs.Parts.{keeps_shape}
use Rattle.page_provider.proofs.Savings.{if_err}
use Rattle.page_provider.proofs.Ticks.{has_cooled, idle_after, seen_stamped, since_stamped}
use Rattle.page_provider.proofs.Unlinks.{stopped_after}
use Rattle.page_provider.proofs.pager.Pager.cool_seen.Goals as goal

pub unhook-requires-clause-keeps : goal.unhook-requires-clause-keeps
unhook-requires-clause-keeps g c = let laws = c.laws.ensures.rows in keeps_shape c.stamp-epoch.ensures.fits.1 (keeps_ran laws.stood laws.standing tt c.stamp-epoch.ensures.answer.ran c.requires.keeps)

pub unhook-requires-clause-seen : goal.unhook-requires-clause-seen
unhook-requires-clause-seen g c =
    let e = g.R.Rows.view c.stamp-epoch.new.seat in
    subst (λ (s : Shape). IsSeen s c.args.seen.now e) (sym c.stamp-epoch.ensures.fits.1) (seen_stamped c.laws.ensures.rows.sights c.stamp-epoch.ensures.answer c.requires.seen)

pub returns-in_err-unhook-clause-err : goal.returns-in_err-unhook-clause-err
returns-in_err-unhook-clause-err g c =
    let z = g.R.Rows.shape c.args.rows.now in
    let v = g.R.Rows.view c.args.seat.now in
    let n = g.R.Rows.view c.stamp-epoch.new.seat in
    let w = g.R.Rows.view c.unhook.new.seat in
    let p = err_from_is_err_and c.from_residual.result c.from_residual.ensures.1 in
    let p2 = p.2 in
    let why = c.in_err-unhook.field-0.0 in
    let e : why ≡ p.0 = cc in
    let P : Refusal → Type 0 = λ q. Stopped 2 z v q w in
    if_err c.from_residual.result p.0 P p.1 (subst P e (stopped_after c.stamp-epoch.ensures.answer.ran (subst (λ (s : Shape). Stopped 2 s n why w) c.stamp-epoch.ensures.fits.1 c.in_err-unhook.ensures.err)))

pub returns-in_err-unhook-clause-cause : goal.returns-in_err-unhook-clause-cause
returns-in_err-unhook-clause-cause g c =
    let v = g.R.Rows.view c.args.seat.now in
    let w = g.R.Rows.view c.unhook.new.seat in
    let p = err_from_is_err_and c.from_residual.result c.from_residual.ensures.1 in
    let p2 = p.2 in
    let why = c.in_err-unhook.field-0.0 in
    let e : why ≡ p.0 = cc in
    let P : Refusal → Type 0 = λ q. SinceFound c.args.seen.now v q w in
    if_err c.from_residual.result p.0 P p.1 (subst P e (since_stamped w why c.args.seen.now c.stamp-epoch.ensures.answer c.in_err-unhook.ensures.cause))

pub returns-then-not-branch-clause-ok : goal.returns-then-not-branch-clause-ok
returns-then-not-branch-clause-ok g c =
    let v = g.R.Rows.view c.args.seat.now in
    let n = g.R.Rows.view c.stamp-epoch.new.seat in
    let w = g.R.Rows.view c.unhook.new.seat in
    let y = g.R.Rows.shape c.stamp-epoch.new.rows in
    let entry : Cooling = record { page = c.number.result; frame = c.args.seen.now.glimpse.row; epoch = c.stamp-epoch.result } in
    let none : c.in_ok-unhook.field-0 ≡ false = search rules in
    let o = subst (λ (b : Bool). Unhooks b y n c.args.self.now entry w c.unhook.new.self) none c.in_ok-unhook.ensures.ok in
    let same = c.in_ok-unhook.ensures.kept none in
    let s = c.stamp-epoch.ensures.fits.1 in
    (idle_after c.laws.ensures.rows c.requires.keeps c.stamp-epoch.ensures.answer.ran (subst (λ (q : Shape). Idle q n c.args.self.now w c.unhook.new.self) s o.0) same, (sym (ap (λ (q : Shape). q.alone) s) ∙ o.1), same)

pub returns-clause-ok : goal.returns-clause-ok
returns-clause-ok g c =
    let n = g.R.Rows.view c.stamp-epoch.new.seat in
    let t = g.R.Rows.view c.unhook.new.seat in
    let u = g.R.Rows.view c.tick.new.seat in
    let y = g.R.Rows.shape c.stamp-epoch.new.rows in
    let entry : Cooling = record { page = c.number.result; frame = c.args.seen.now.glimpse.row; epoch = c.stamp-epoch.result } in
    let done : c.in_ok-unhook.field-0 ≡ true = search rules in
    let o = subst (λ (b : Bool). Unhooks b y n c.args.self.now entry t c.unhook.new.self) done c.in_ok-unhook.ensures.ok in
    let s = c.stamp-epoch.ensures.fits.1 in
    let h = subst (λ (q : Shape). HasUnhooked q n c.args.self.now entry t c.unhook.new.self) s o in
    let tick = subst (λ (q : Shape). HasTicked q t u) (c.in_ok-unhook.ensures.fits.1 ∙ s) c.tick.ensures.after in
    let k = has_cooled {entry = entry} c.laws.ensures.rows c.requires.keeps c.stamp-epoch.ensures.answer c.requires.held c.if-epoch-ge-LAST.false h tick in
    (k.0, c.number.ensures, refl, k.1)

pub returns-then-epoch-ge-LAST-clause-cause : goal.returns-then-epoch-ge-LAST-clause-cause
returns-then-epoch-ge-LAST-clause-cause g c from f =
    let k = c.stamp-epoch.ensures.answer in
    let late = c.if-epoch-ge-LAST.true in
    inr (subst (λ (y : Given). c.args.seen.now.glimpse.row < (opening y).frames) (sym k.ran.given) c.requires.seen.frame, subst (λ n. 4611686018427387904 ≤ n) (sym k.epoch_is) late)

pub unhook-requires-clause-fits : goal.unhook-requires-clause-fits
unhook-requires-clause-fits g c = c.stamp-epoch.ensures.fits.0

pub returns-in_err-unhook-clause-fits : goal.returns-in_err-unhook-clause-fits
returns-in_err-unhook-clause-fits g c = let o = c.stamp-epoch.ensures.fits in let e = c.in_err-unhook.ensures.fits in (e.0, e.1 ∙ o.1)

pub returns-then-not-branch-clause-fits : goal.returns-then-not-branch-clause-fits
returns-then-not-branch-clause-fits g c = let o = c.stamp-epoch.ensures.fits in let e = c.in_ok-unhook.ensures.fits in (e.0, e.1 ∙ o.1)

pub returns-clause-fits : goal.returns-clause-fits
returns-clause-fits g c = (c.tick.ensures.fits.0, c.tick.ensures.fits.1 ∙ (c.in_ok-unhook.ensures.fits.1 ∙ c.stamp-epoch.ensures.fits.1))
