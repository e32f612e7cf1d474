use Rattle.std.proofs.Common.{◌≡◌, ◌∙◌, Bool, refl, subst, arith}
use Rattle.std.proofs.lemmas.Result.{err_from_is_err_and}
use Rattle.row_image.proofs.Watching.{watched_shape, watched_then}
use Rattle.page_provider.specs.Finds.{NamesIn}
use Rattle.page_provider.specs.Inside.{Missed}
use Rattle.page_provider.specs.declared.refusal.Refusal.{Refusal}
use Rattle.page_provider.proofs.Savings.{if_err}
use Rattle.page_provider.proofs.Sightings.{missed_before, sound_still, unnamed_next, unnamed_none}
use Rattle.page_provider.proofs.Asks.{actor_on, sized_on}
use Rattle.page_provider.proofs.finding.named_any.Goals as goal

pub loop-frame-init : goal.loop-frame-init
loop-frame-init g c = record { fits = (c.requires.fits, refl, refl); unnamed = unnamed_none (g.R.Rows.shape c.args.rows.now) (g.R.Rows.view c.args.seat.now) c.args.word }

pub names-requires-clause-sound : goal.names-requires-clause-sound
names-requires-clause-sound g c = sound_still (g.R.Rows.view c.args.seat.now) (g.R.Rows.view c.loop-frame.seat) c.loop-frame.invariant.unnamed.watched.ran.given c.requires.sound

pub returns-in_err-names-clause-err : goal.returns-in_err-names-clause-err
returns-in_err-names-clause-err g c =
    let z = g.R.Rows.shape c.args.rows.now in
    let v = g.R.Rows.view c.args.seat.now in
    let w = g.R.Rows.view c.names.new.seat in
    let inv = c.loop-frame.invariant in
    let p = err_from_is_err_and c.from_residual.result c.from_residual.ensures.1 in
    let p2 = p.2 in
    let why = c.in_err-names.field-0.0 in
    let e : why ≡ p.0 = cc in
    let P : Refusal → Type 0 = λ q. Missed z v q w in
    if_err c.from_residual.result p.0 P p.1 (subst P e (missed_before inv.fits.1 inv.unnamed.watched c.in_err-names.ensures.err))

pub returns-then-branch-clause-ok : goal.returns-then-branch-clause-ok
returns-then-branch-clause-ok g c =
    let w = g.R.Rows.view c.names.new.seat in
    let inv = c.loop-frame.invariant in
    let o = c.in_ok-names.ensures in
    ((watched_then inv.unnamed.watched (watched_shape inv.fits.1 o.kept)).ran, c.loop-frame-test.true, subst (λ (b : Bool). NamesIn c.loop-frame.frame c.args.word b w) c.if-branch.true o.ok)

pub returns-then-branch-clause-kept : goal.returns-then-branch-clause-kept
returns-then-branch-clause-kept g c = let inv = c.loop-frame.invariant in watched_then inv.unnamed.watched (watched_shape inv.fits.1 c.in_ok-names.ensures.kept)

pub loop-frame-preserved : goal.loop-frame-preserved
loop-frame-preserved g c =
    let w = g.R.Rows.view c.names.new.seat in
    let inv = c.loop-frame.invariant in
    let o = c.in_ok-names.ensures in
    record { fits = (o.fits.0, o.fits.1 ∙ inv.fits.1, o.fits.2 ∙ inv.fits.2); unnamed = unnamed_next inv.unnamed inv.fits.1 o.kept (subst (λ (b : Bool). NamesIn c.loop-frame.frame c.args.word b w) c.if-branch.false o.ok) }

pub returns-clause-ok : goal.returns-clause-ok
returns-clause-ok g c =
    let inv = c.loop-frame.invariant in
    let all = c.loop-frame-test.false in
    (inv.unnamed.watched.ran, λ only f n lt s. inv.unnamed.none only f n (omega arith) s)

pub names-requires-clause-fits : goal.names-requires-clause-fits
names-requires-clause-fits g c = c.loop-frame.invariant.fits.0

pub names-requires-clause-sized : goal.names-requires-clause-sized
names-requires-clause-sized g c = let i = c.loop-frame.invariant in sized_on i.fits.1 i.unnamed.watched c.requires.sized

pub names-requires-clause-actor : goal.names-requires-clause-actor
names-requires-clause-actor g c = let i = c.loop-frame.invariant in actor_on i.fits.1 i.unnamed.watched c.requires.actor

pub returns-in_err-names-clause-fits : goal.returns-in_err-names-clause-fits
returns-in_err-names-clause-fits g c = let o = c.loop-frame.invariant.fits in let e = c.in_err-names.ensures.fits in (e.0, e.1 ∙ o.1, e.2 ∙ o.2)

pub returns-then-branch-clause-fits : goal.returns-then-branch-clause-fits
returns-then-branch-clause-fits g c = let o = c.loop-frame.invariant.fits in let e = c.in_ok-names.ensures.fits in (e.0, e.1 ∙ o.1, e.2 ∙ o.2)
