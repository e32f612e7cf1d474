use Rattle.std.proofs.Common.{◌∙◌, subst, sym, ap, ◌≡◌, ◌<◌}
use Rattle.btree_descent.specs.row_words.Moments.{pager}
use Rattle.btree_descent.specs.rows_trait.declared.view.View.{View}
use Rattle.btree_descent.specs.rows_trait.Views.{Shape}
use Rattle.btree_descent.specs.version_latch.declared.glimpse.Unheld.{Unheld}
use Rattle.btree_descent.specs.Known.{IsSound}
use Rattle.held_rows.proofs.GivingUp.{released_as}
use Rattle.row_image.specs.Sights.{HasTaken, IsUnheld}
use Rattle.btree_descent.specs.row_words.declared.given.Given.{Given}
use Rattle.page_provider.proofs.Latches.{behind_missed, both_moved, both_spent, seen_still, spent_missed, stopped_second, taken_words, takes_two}
use Rattle.page_provider.proofs.Savings.{if_err}
use Rattle.page_provider.specs.declared.refusal.Refusal.{Refusal}
use Rattle.page_provider.specs.Finds.{SinceBoth, Stopped}
use Rattle.std.proofs.lemmas.Result.{err_from_is_err_and}
use Rattle.page_provider.proofs.Asks.{actor_ran, stopped_more}
use Rattle.page_provider.proofs.latching.take_two.Goals as goal

pub take-requires-clause-sound : goal.take-requires-clause-sound
take-requires-clause-sound g c = subst (λ (q : Given). IsSound q) (sym c.in_ok-held.ensures.taken.ran.given) c.requires.sound

pub take-requires-clause-known : goal.take-requires-clause-known
take-requires-clause-known g c = (seen_still c.laws.ensures.rows.sights c.requires.apart c.in_ok-held.ensures.taken c.requires.second).known

pub returns-in-Ok-clause-ok : goal.returns-in-Ok-clause-ok
returns-in-Ok-clause-ok g c =
    let u = g.R.Rows.view c.take_seen.new.seat in
    let w = g.R.Rows.view c.take.new.seat in
    let b = c.args.second.now in
    let a = c.in-Ok.ensures.answer in
    let t = subst (λ (s : Shape). HasTaken s b u w) c.in_ok-held.ensures.fits.1 a.1 in
    (c.in_ok-held.ensures.ok.0, a.0, takes_two c.laws.ensures.rows.sights c.requires.sound c.requires.held c.requires.first c.in_ok-held.ensures.taken c.requires.apart c.requires.second t)

pub returns-in-Ok-clause-words : goal.returns-in-Ok-clause-words
returns-in-Ok-clause-words g c = taken_words c.in-Ok.ensures.answer.1

pub returns-in-Moved-clause-err : goal.returns-in-Moved-clause-err
returns-in-Moved-clause-err g c =
    let z = g.R.Rows.shape c.args.rows.now in
    let y = g.R.Rows.shape c.take_seen.new.rows in
    let u = g.R.Rows.view c.take_seen.new.seat in
    let w = g.R.Rows.view c.take.new.seat in
    let s1 = c.in_ok-held.ensures.fits.1 in
    let k = subst (λ (q : Unheld). IsUnheld y.alone pager c.args.second.now u q w) c.in-Moved.is c.in-Err.ensures.cause in
    let r = released_as (c.in-Err.ensures.fits.1 ∙ s1) c.in_ok-held.ensures.ok.0 c.release.ensures.step in
    let last = (seen_still c.laws.ensures.rows.sights c.requires.apart c.in_ok-held.ensures.taken c.requires.second).last in
    stopped_second c.requires.held c.requires.first c.in_ok-held.ensures.taken k.held r tt (behind_missed (subst (λ (s : Shape). IsUnheld s.alone pager c.args.second.now u (Rattle.btree_descent.specs.version_latch.declared.glimpse.Unheld.TheVariants.Moved c.in-Moved.moved) w) s1 k))
    (λ alone _. subst (λ (q : Unheld). Rattle.row_image.specs.Sights.IsSpent q) c.in-Moved.is (c.in-Err.ensures.quiet (ap (λ (s : Shape). s.alone) s1 ∙ alone) (last alone)))

pub returns-in-Moved-clause-cause : goal.returns-in-Moved-clause-cause
returns-in-Moved-clause-cause g c =
    let y = g.R.Rows.shape c.take_seen.new.rows in
    let u = g.R.Rows.view c.take_seen.new.seat in
    let w = g.R.Rows.view c.take.new.seat in
    let k = subst (λ (q : Unheld). IsUnheld y.alone pager c.args.second.now u q w) c.in-Moved.is c.in-Err.ensures.cause in
    both_moved c.args.second.now c.requires.apart c.in_ok-held.ensures.taken (released_as (c.in-Err.ensures.fits.1 ∙ c.in_ok-held.ensures.fits.1) c.in_ok-held.ensures.ok.0 c.release.ensures.step) k

pub returns-in-RowSpent-clause-err : goal.returns-in-RowSpent-clause-err
returns-in-RowSpent-clause-err g c =
    let y = g.R.Rows.shape c.take_seen.new.rows in
    let u = g.R.Rows.view c.take_seen.new.seat in
    let w = g.R.Rows.view c.take.new.seat in
    let k = subst (λ (q : Unheld). IsUnheld y.alone pager c.args.second.now u q w) c.in-RowSpent.is c.in-Err.ensures.cause in
    let r = released_as (c.in-Err.ensures.fits.1 ∙ c.in_ok-held.ensures.fits.1) c.in_ok-held.ensures.ok.0 c.release.ensures.step in
    stopped_second c.requires.held c.requires.first c.in_ok-held.ensures.taken (ap (λ (x : View). x.held) k.1) r tt (spent_missed k.1) (λ _ o. o)

pub returns-in-RowSpent-clause-cause : goal.returns-in-RowSpent-clause-cause
returns-in-RowSpent-clause-cause g c =
    let y = g.R.Rows.shape c.take_seen.new.rows in
    let u = g.R.Rows.view c.take_seen.new.seat in
    let w = g.R.Rows.view c.take.new.seat in
    let k = subst (λ (q : Unheld). IsUnheld y.alone pager c.args.second.now u q w) c.in-RowSpent.is c.in-Err.ensures.cause in
    both_spent c.args.second.now c.requires.apart c.in_ok-held.ensures.taken (released_as (c.in-Err.ensures.fits.1 ∙ c.in_ok-held.ensures.fits.1) c.in_ok-held.ensures.ok.0 c.release.ensures.step) c.requires.second.frame k.0 k.1

pub take-requires-clause-fits : goal.take-requires-clause-fits
take-requires-clause-fits g c = c.in_ok-held.ensures.fits.0

pub take-requires-clause-actor : goal.take-requires-clause-actor
take-requires-clause-actor g c = let o = c.in_ok-held.ensures in actor_ran o.fits.1 o.taken.ran c.requires.actor

pub returns-in_err-held-clause-err : goal.returns-in_err-held-clause-err
returns-in_err-held-clause-err g c =
    let p = err_from_is_err_and c.from_residual.result c.from_residual.ensures.1 in
    let p2 = p.2 in
    let why = c.in_err-held.field-0.0 in
    let e : why ≡ p.0 = cc in
    let P : Refusal → Type 0 = λ q. Stopped 2 (g.R.Rows.shape c.args.rows.now) (g.R.Rows.view c.args.seat.now) q (g.R.Rows.view c.take_seen.new.seat) in
    if_err c.from_residual.result p.0 P p.1 (subst P e (stopped_more c.in_err-held.ensures.err))

pub returns-in-Ok-clause-fits : goal.returns-in-Ok-clause-fits
returns-in-Ok-clause-fits g c = let o = c.in_ok-held.ensures.fits in let e = c.in-Ok.ensures.fits in (e.0, e.1 ∙ o.1)

pub returns-in-Moved-clause-fits : goal.returns-in-Moved-clause-fits
returns-in-Moved-clause-fits g c = (c.release.ensures.fits.0, c.release.ensures.fits.1 ∙ (c.in-Err.ensures.fits.1 ∙ c.in_ok-held.ensures.fits.1))

pub returns-in-RowSpent-clause-fits : goal.returns-in-RowSpent-clause-fits
returns-in-RowSpent-clause-fits g c = (c.release.ensures.fits.0, c.release.ensures.fits.1 ∙ (c.in-Err.ensures.fits.1 ∙ c.in_ok-held.ensures.fits.1))

pub take-requires-clause-frame : goal.take-requires-clause-frame
take-requires-clause-frame g c =
    let o = c.in_ok-held.ensures in
    let s = seen_still c.laws.ensures.rows.sights c.requires.apart o.taken c.requires.second in
    (subst (λ (q : Shape). c.args.second.now.glimpse.row < q.sizes.frames) (sym o.fits.1) s.inside, s.frame)

pub returns-in_err-held-clause-cause : goal.returns-in_err-held-clause-cause
returns-in_err-held-clause-cause g c =
    let p = err_from_is_err_and c.from_residual.result c.from_residual.ensures.1 in
    let p2 = p.2 in
    let why = c.in_err-held.field-0.0 in
    let e : why ≡ p.0 = cc in
    let P : Refusal → Type 0 = λ q. SinceBoth c.args.first.now c.args.second.now (g.R.Rows.view c.args.seat.now) q (g.R.Rows.view c.take_seen.new.seat) in
    if_err c.from_residual.result p.0 P p.1 (subst P e (λ from first second. c.in_err-held.ensures.cause from first))
