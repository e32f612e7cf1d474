use Rattle.std.proofs.Common.{◌∙◌, true, false, subst, ap, ◌≡◌}
use Rattle.btree_descent.specs.rows_trait.Views.{Shape, holds}
use Rattle.held_rows.specs.Latching as latching
use Rattle.held_rows.specs.Latching.{Took}
use Rattle.held_rows.specs.declared.latching.Refusal.{Refusal}
use Rattle.held_rows.proofs.GivingUp.{released_as}
use Rattle.held_rows.proofs.TakingMore.{took_other}
use Rattle.page_provider.proofs.Latches.{as_took, refused_as, stopped_second, takes_with, with_latched, with_moved, with_spent}
use Rattle.page_provider.proofs.Savings.{if_err}
use Rattle.page_provider.specs.declared.refusal.Refusal.{Refusal as Told}
use Rattle.page_provider.specs.Finds.{Stopped}
use Rattle.std.proofs.lemmas.Result.{err_from_is_err_and}
use Rattle.page_provider.proofs.Asks.{actor_ran, stopped_more}
use Rattle.page_provider.proofs.latching.take_with.Goals as goal

pub returns-in-Ok-clause-ok : goal.returns-in-Ok-clause-ok
returns-in-Ok-clause-ok g c =
    let u = g.R.Rows.view c.take_seen.new.seat in
    let w = g.R.Rows.view c.latch.new.seat in
    let o = c.in-Ok.ensures.ok in
    let t = subst (λ (s : Shape). Took s c.args.row u w) c.in_ok-held.ensures.fits.1 o.1 in
    (c.in_ok-held.ensures.ok.0, o.0, takes_with c.laws.ensures.rows.sights c.requires.sound c.requires.held c.requires.first c.in_ok-held.ensures.taken c.requires.apart c.requires.frame.0 c.requires.frame.1 t)

pub returns-in-Moved-clause-err : goal.returns-in-Moved-clause-err
returns-in-Moved-clause-err g c =
    let v = g.R.Rows.view c.args.seat.now in
    let y = g.R.Rows.shape c.take_seen.new.rows in
    let u = g.R.Rows.view c.take_seen.new.seat in
    let s1 = c.in_ok-held.ensures.fits.1 in
    let t = c.in_ok-held.ensures.taken in
    let k = refused_as s1 c.in-Err.ensures.err in
    let r = released_as (c.in-Err.ensures.fits.1 ∙ s1) c.in_ok-held.ensures.ok.0 c.release.ensures.step in
    let quiet = subst (λ (q : Refusal). y.alone ≡ true → holds u.held c.args.row ≡ false → latching.IsUndisturbed q) c.in-Moved.is c.in-Err.ensures.quiet in
    stopped_second c.requires.held c.requires.first t k.held r tt k.missed (λ alone _. quiet (ap (λ (s : Shape). s.alone) s1 ∙ alone) (took_other c.args.row c.requires.apart (as_took t) (ap (λ hs. holds hs c.args.row) c.requires.held)))

pub returns-in-Moved-clause-cause : goal.returns-in-Moved-clause-cause
returns-in-Moved-clause-cause g c =
    let u = g.R.Rows.view c.take_seen.new.seat in
    let w = g.R.Rows.view c.latch.new.seat in
    let cause = subst (λ (q : Refusal). latching.Caused c.args.row u q w) c.in-Moved.is c.in-Err.ensures.cause in
    with_moved c.requires.apart c.in_ok-held.ensures.taken (released_as (c.in-Err.ensures.fits.1 ∙ c.in_ok-held.ensures.fits.1) c.in_ok-held.ensures.ok.0 c.release.ensures.step) cause.0 cause.1

pub returns-in-Latched-clause-err : goal.returns-in-Latched-clause-err
returns-in-Latched-clause-err g c =
    let y = g.R.Rows.shape c.take_seen.new.rows in
    let u = g.R.Rows.view c.take_seen.new.seat in
    let s1 = c.in_ok-held.ensures.fits.1 in
    let t = c.in_ok-held.ensures.taken in
    let k = refused_as s1 c.in-Err.ensures.err in
    let r = released_as (c.in-Err.ensures.fits.1 ∙ s1) c.in_ok-held.ensures.ok.0 c.release.ensures.step in
    let quiet = subst (λ (q : Refusal). y.alone ≡ true → holds u.held c.args.row ≡ false → latching.IsUndisturbed q) c.in-Latched.is c.in-Err.ensures.quiet in
    stopped_second c.requires.held c.requires.first t k.held r tt k.missed (λ alone _. quiet (ap (λ (s : Shape). s.alone) s1 ∙ alone) (took_other c.args.row c.requires.apart (as_took t) (ap (λ hs. holds hs c.args.row) c.requires.held)))

pub returns-in-Latched-clause-cause : goal.returns-in-Latched-clause-cause
returns-in-Latched-clause-cause g c =
    let u = g.R.Rows.view c.take_seen.new.seat in
    let w = g.R.Rows.view c.latch.new.seat in
    let cause = subst (λ (q : Refusal). latching.Caused c.args.row u q w) c.in-Latched.is c.in-Err.ensures.cause in
    with_latched c.requires.apart c.in_ok-held.ensures.taken (released_as (c.in-Err.ensures.fits.1 ∙ c.in_ok-held.ensures.fits.1) c.in_ok-held.ensures.ok.0 c.release.ensures.step) cause.1

pub returns-in-RowSpent-clause-err : goal.returns-in-RowSpent-clause-err
returns-in-RowSpent-clause-err g c =
    let s1 = c.in_ok-held.ensures.fits.1 in
    let k = refused_as s1 c.in-Err.ensures.err in
    let r = released_as (c.in-Err.ensures.fits.1 ∙ s1) c.in_ok-held.ensures.ok.0 c.release.ensures.step in
    stopped_second c.requires.held c.requires.first c.in_ok-held.ensures.taken k.held r tt k.missed (λ _ o. o)

pub returns-in-RowSpent-clause-cause : goal.returns-in-RowSpent-clause-cause
returns-in-RowSpent-clause-cause g c =
    let u = g.R.Rows.view c.take_seen.new.seat in
    let w = g.R.Rows.view c.latch.new.seat in
    let cause = subst (λ (q : Refusal). latching.Caused c.args.row u q w) c.in-RowSpent.is c.in-Err.ensures.cause in
    with_spent c.requires.apart c.in_ok-held.ensures.taken (released_as (c.in-Err.ensures.fits.1 ∙ c.in_ok-held.ensures.fits.1) c.in_ok-held.ensures.ok.0 c.release.ensures.step) c.requires.frame.1 c.in-Err.ensures.err.missed.ran.given cause.0 cause.1.1 cause.1.2

pub latch-requires-clause-fits : goal.latch-requires-clause-fits
latch-requires-clause-fits g c = c.in_ok-held.ensures.fits.0

pub latch-requires-clause-actor : goal.latch-requires-clause-actor
latch-requires-clause-actor g c = let o = c.in_ok-held.ensures in actor_ran o.fits.1 o.taken.ran c.requires.actor

pub returns-in_err-held-clause-err : goal.returns-in_err-held-clause-err
returns-in_err-held-clause-err g c =
    let p = err_from_is_err_and c.from_residual.result c.from_residual.ensures.1 in
    let p2 = p.2 in
    let why = c.in_err-held.field-0.0 in
    let e : why ≡ p.0 = cc in
    let P : Told → Type 0 = λ q. Stopped 2 (g.R.Rows.shape c.args.rows.now) (g.R.Rows.view c.args.seat.now) q (g.R.Rows.view c.take_seen.new.seat) in
    if_err c.from_residual.result p.0 P p.1 (subst P e (stopped_more c.in_err-held.ensures.err))

pub returns-in-Ok-clause-fits : goal.returns-in-Ok-clause-fits
returns-in-Ok-clause-fits g c = let o = c.in_ok-held.ensures.fits in let e = c.in-Ok.ensures.fits in (e.0, e.1 ∙ o.1)

pub returns-in-Moved-clause-fits : goal.returns-in-Moved-clause-fits
returns-in-Moved-clause-fits g c = (c.release.ensures.fits.0, c.release.ensures.fits.1 ∙ (c.in-Err.ensures.fits.1 ∙ c.in_ok-held.ensures.fits.1))

pub returns-in-Latched-clause-fits : goal.returns-in-Latched-clause-fits
returns-in-Latched-clause-fits g c = (c.release.ensures.fits.0, c.release.ensures.fits.1 ∙ (c.in-Err.ensures.fits.1 ∙ c.in_ok-held.ensures.fits.1))

pub returns-in-RowSpent-clause-fits : goal.returns-in-RowSpent-clause-fits
returns-in-RowSpent-clause-fits g c = (c.release.ensures.fits.0, c.release.ensures.fits.1 ∙ (c.in-Err.ensures.fits.1 ∙ c.in_ok-held.ensures.fits.1))
