use Rattle.std.proofs.Common.{◌≡◌, ◌∙◌, [], Option, refl, sym, subst}
use Rattle.std.proofs.lemmas.Result.{err_from_is_err_and}
use Rattle.btree_descent.specs.row_words.Moments.{pager}
use Rattle.btree_descent.specs.rows_trait.Views.{state}
use Rattle.btree_descent.specs.core_state.States.{Place}
use Rattle.btree_descent.proofs.version_latch.Keeping.{may_ran, may_shape}
use Rattle.btree_descent.proofs.Calls.{sized_after}
use Rattle.row_image.specs.Sights.{HasSeen}
use Rattle.row_image.specs.declared.sight.Sight.{Sight}
use Rattle.row_image.proofs.Watching.{watched_shape, watched_then}
use Rattle.page_provider.specs.Inside.{Missed}
use Rattle.page_provider.specs.declared.refusal.Refusal.{Refusal}
use Rattle.page_provider.proofs.Savings.{if_err}
use Rattle.page_provider.proofs.Sightings.{missed_before, none_here, other_here, passed_next, passed_none, sound_still, stands_nowhere}
use Rattle.page_provider.proofs.finding.standing.Goals as goal
use Rattle.page_provider.proofs.finding.standing.Goals.{in-Some+else-number-from, in_default}

pub loop-frame-init : goal.loop-frame-init
loop-frame-init g c = record { fits = (c.requires.fits, refl, refl); passed = passed_none (g.R.Rows.shape c.args.rows.now) (g.R.Rows.view c.args.seat.now) c.args.page }

pub sight-requires-clause-fits : goal.sight-requires-clause-fits
sight-requires-clause-fits g c = c.loop-frame.invariant.fits.0

pub sight-requires-clause-sized : goal.sight-requires-clause-sized
sight-requires-clause-sized g c =
    let inv = c.loop-frame.invariant in
    sized_after (g.R.Rows.shape c.loop-frame.rows) (g.R.Rows.shape c.args.rows.now) (g.R.Rows.view c.args.seat.now) (g.R.Rows.view c.loop-frame.seat) c.args.frames inv.fits.1 inv.passed.watched.ran.given c.requires.sized

pub sight-requires-clause-actor : goal.sight-requires-clause-actor
sight-requires-clause-actor g c =
    let z = g.R.Rows.shape c.args.rows.now in
    let v = g.R.Rows.view c.args.seat.now in
    let u = g.R.Rows.view c.loop-frame.seat in
    let inv = c.loop-frame.invariant in
    may_shape (g.R.Rows.shape c.loop-frame.rows) z u pager inv.fits.1 (may_ran z.alone v u [] pager inv.passed.watched.ran c.requires.actor)

pub sight-requires-clause-sound : goal.sight-requires-clause-sound
sight-requires-clause-sound g c = sound_still (g.R.Rows.view c.args.seat.now) (g.R.Rows.view c.loop-frame.seat) c.loop-frame.invariant.passed.watched.ran.given c.requires.sound

pub returns-in_err-seen-clause-fits : goal.returns-in_err-seen-clause-fits
returns-in_err-seen-clause-fits g c = let inv = c.loop-frame.invariant in let e = c.in_err-seen.ensures in (e.fits.0, e.fits.1 ∙ inv.fits.1, e.fits.2 ∙ inv.fits.2)

pub returns-in_err-seen-clause-err : goal.returns-in_err-seen-clause-err
returns-in_err-seen-clause-err g c =
    let z = g.R.Rows.shape c.args.rows.now in
    let v = g.R.Rows.view c.args.seat.now in
    let w = g.R.Rows.view c.sight.new.seat in
    let inv = c.loop-frame.invariant in
    let p = err_from_is_err_and c.from_residual.result c.from_residual.ensures.1 in
    let p2 = p.2 in
    let why = c.in_err-seen.field-0.0 in
    let e : why ≡ p.0 = cc in
    let P : Refusal → Type 0 = λ q. Missed z v q w in
    if_err c.from_residual.result p.0 P p.1 (subst P e (missed_before inv.fits.1 inv.passed.watched c.in_err-seen.ensures.err))

pub returns-then-number-from-clause-ok : goal.returns-then-number-from-clause-ok
returns-then-number-from-clause-ok g c =
    let y = g.R.Rows.shape c.loop-frame.rows in
    let u = g.R.Rows.view c.loop-frame.seat in
    let w = g.R.Rows.view c.sight.new.seat in
    let inv = c.loop-frame.invariant in
    let i = subst (λ (o : Option Sight). HasSeen y.alone c.loop-frame.frame u o w) c.in-Some.is c.in_ok-seen.ensures.ok in
    let k = watched_then inv.passed.watched (watched_shape inv.fits.1 c.in_ok-seen.ensures.kept) in
    let e : c.in-Some.seen.node.number ≡ c.args.page = cc in
    (k.ran, subst (λ p. (state w).core.place p ≡ Place.Hot c.loop-frame.frame) e i.stands.stands.hot)

pub loop-frame-preserved : goal.loop-frame-preserved
loop-frame-preserved g c =
    let y = g.R.Rows.shape c.loop-frame.rows in
    let v = g.R.Rows.view c.args.seat.now in
    let u = g.R.Rows.view c.loop-frame.seat in
    let w = g.R.Rows.view c.sight.new.seat in
    let inv = c.loop-frame.invariant in
    let o = c.in_ok-seen.ensures in
    let k = watched_then inv.passed.watched (watched_shape inv.fits.1 o.kept) in
    let Seen : Option Sight → Type 0 = λ x. HasSeen y.alone c.loop-frame.frame u x w in
    let here : (state w).core.place c.args.page ≡ Place.Hot c.loop-frame.frame → ⊥ = elim c.match-branch-2.branch [
      | in-Some+else-number-from b ↦ let i = subst Seen b.in-Some.is o.ok in other_here v w c.requires.sound k.ran.given i.stands (λ e. b.if-number-from.false (b.number.ensures ∙ (e ∙ sym b.from.ensures)))
      | in_default b ↦ let i = subst Seen b.in_default.is o.ok in none_here v w c.requires.below k.ran.given i.1
    ] in
    record { fits = (o.fits.0, o.fits.1 ∙ inv.fits.1, o.fits.2 ∙ inv.fits.2); passed = passed_next c.laws.ensures.rows.stood c.requires.actor inv.passed inv.fits.1 o.kept here }

pub returns-clause-ok : goal.returns-clause-ok
returns-clause-ok g c =
    let inv = c.loop-frame.invariant in
    (inv.passed.watched.ran, stands_nowhere c.loop-frame-test.false c.requires.sized c.requires.sound inv.passed)
