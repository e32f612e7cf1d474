use Rattle.std.proofs.Common.{◌≡◌, ◌∙◌, [], Option, refl, subst}
use Rattle.std.proofs.lemmas.Result.{err_from_is_err_and}
use Rattle.btree_descent.specs.row_words.Moments.{pager}
use Rattle.btree_descent.proofs.version_latch.Keeping.{may_ran, may_shape}
use Rattle.btree_descent.proofs.Calls.{sized_after}
use Rattle.row_image.specs.Sights.{HasSeen}
use Rattle.row_image.specs.declared.sight.Sight.{Sight}
use Rattle.page_provider.specs.Inside.{Missed}
use Rattle.page_provider.specs.declared.refusal.Refusal.{Refusal}
use Rattle.page_provider.proofs.Savings.{if_err}
use Rattle.page_provider.proofs.Sightings.{candidate_bare, candidate_deep, candidate_found, descended_next, descended_none, missed_before, sound_still}
use Rattle.page_provider.proofs.finding.candidate.Goals as goal

pub loop-init : goal.loop-init
loop-init g c = record { fits = (c.requires.fits, refl, refl); way = descended_none c.requires.sound c.requires.frame }

pub sight-requires-clause-fits : goal.sight-requires-clause-fits
sight-requires-clause-fits g c = c.loop.invariant.fits.0

pub sight-requires-clause-sized : goal.sight-requires-clause-sized
sight-requires-clause-sized g c =
    let inv = c.loop.invariant in
    sized_after (g.R.Rows.shape c.loop.rows) (g.R.Rows.shape c.args.rows.now) (g.R.Rows.view c.args.seat.now) (g.R.Rows.view c.loop.seat) c.args.frames inv.fits.1 inv.way.watched.ran.given c.requires.sized

pub sight-requires-clause-actor : goal.sight-requires-clause-actor
sight-requires-clause-actor g c =
    let z = g.R.Rows.shape c.args.rows.now in
    let v = g.R.Rows.view c.args.seat.now in
    let u = g.R.Rows.view c.loop.seat in
    let inv = c.loop.invariant in
    may_shape (g.R.Rows.shape c.loop.rows) z u pager inv.fits.1 (may_ran z.alone v u [] pager inv.way.watched.ran c.requires.actor)

pub sight-requires-clause-sound : goal.sight-requires-clause-sound
sight-requires-clause-sound g c = sound_still (g.R.Rows.view c.args.seat.now) (g.R.Rows.view c.loop.seat) c.loop.invariant.way.watched.ran.given c.requires.sound

pub sight-requires-clause-frame : goal.sight-requires-clause-frame
sight-requires-clause-frame g c = c.loop.invariant.way.within

pub returns-in_err-seen-clause-fits : goal.returns-in_err-seen-clause-fits
returns-in_err-seen-clause-fits g c = let inv = c.loop.invariant in let e = c.in_err-seen.ensures in (e.fits.0, e.fits.1 ∙ inv.fits.1, e.fits.2 ∙ inv.fits.2)

pub returns-in_err-seen-clause-err : goal.returns-in_err-seen-clause-err
returns-in_err-seen-clause-err g c =
    let z = g.R.Rows.shape c.args.rows.now in
    let v = g.R.Rows.view c.args.seat.now in
    let w = g.R.Rows.view c.sight.new.seat in
    let inv = c.loop.invariant in
    let p = err_from_is_err_and c.from_residual.result c.from_residual.ensures.1 in
    let p2 = p.2 in
    let why = c.in_err-seen.field-0.0 in
    let e : why ≡ p.0 = cc in
    let P : Refusal → Type 0 = λ q. Missed z v q w in
    if_err c.from_residual.result p.0 P p.1 (subst P e (missed_before inv.fits.1 inv.way.watched c.in_err-seen.ensures.err))

pub returns-in_default-clause-fits : goal.returns-in_default-clause-fits
returns-in_default-clause-fits g c = let inv = c.loop.invariant in let o = c.in_ok-seen.ensures in (o.fits.0, o.fits.1 ∙ inv.fits.1, o.fits.2 ∙ inv.fits.2)

pub returns-in_default-clause-ok : goal.returns-in_default-clause-ok
returns-in_default-clause-ok g c =
    let y = g.R.Rows.shape c.loop.rows in
    let u = g.R.Rows.view c.loop.seat in
    let w = g.R.Rows.view c.sight.new.seat in
    let inv = c.loop.invariant in
    let b = subst (λ (o : Option Sight). HasSeen y.alone c.loop.at u o w) c.in_default.is c.in_ok-seen.ensures.ok in
    candidate_bare inv.way inv.fits.1 c.requires.sound b.0 b.1

pub returns-in-None-clause-fits : goal.returns-in-None-clause-fits
returns-in-None-clause-fits g c = let inv = c.loop.invariant in let o = c.in_ok-seen.ensures in (o.fits.0, o.fits.1 ∙ inv.fits.1, o.fits.2 ∙ inv.fits.2)

pub returns-in-None-clause-ok : goal.returns-in-None-clause-ok
returns-in-None-clause-ok g c =
    let y = g.R.Rows.shape c.loop.rows in
    let u = g.R.Rows.view c.loop.seat in
    let w = g.R.Rows.view c.sight.new.seat in
    let inv = c.loop.invariant in
    let i = subst (λ (o : Option Sight). HasSeen y.alone c.loop.at u o w) c.in-Some.is c.in_ok-seen.ensures.ok in
    candidate_found inv.way inv.fits.1 c.requires.sound c.in_ok-seen.ensures.kept i c.in-None.ensures.none

pub loop-preserved : goal.loop-preserved
loop-preserved g c =
    let y = g.R.Rows.shape c.loop.rows in
    let u = g.R.Rows.view c.loop.seat in
    let w = g.R.Rows.view c.sight.new.seat in
    let inv = c.loop.invariant in
    let o = c.in_ok-seen.ensures in
    let i = subst (λ (o : Option Sight). HasSeen y.alone c.loop.at u o w) c.in-Some.is o.ok in
    record {
      fits = (o.fits.0, o.fits.1 ∙ inv.fits.1, o.fits.2 ∙ inv.fits.2);
      way = descended_next inv.way inv.fits.1 c.requires.sound c.requires.sized o.kept i c.in-Some-hot_child.ensures.some;
    }

pub returns-clause-fits : goal.returns-clause-fits
returns-clause-fits g c = c.loop.invariant.fits

pub returns-clause-ok : goal.returns-clause-ok
returns-clause-ok g c = candidate_deep c.loop-test.false c.loop.invariant.way
