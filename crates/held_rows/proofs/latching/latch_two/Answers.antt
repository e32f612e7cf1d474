use Rattle.std.proofs.Common.{◌∙◌, subst}
use Rattle.rows_trait.specs.Views.{Shape}
use Rattle.held_rows.specs.Steps.{MissedUpTo}
use Rattle.held_rows.specs.Latching.{Took, Refused}
use Rattle.held_rows.specs.Waits.{missed_then}
use Rattle.held_rows.proofs.TakingMore.{took_one, took_two, took_missed}
use Rattle.held_rows.proofs.latching.latch_two.Goals as goal

pub returns-in-Ok-latch-clause-ok : goal.returns-in-Ok-latch-clause-ok
returns-in-Ok-latch-clause-ok g c =
    let o = c.in-Ok.ensures in
    let p = c.in-Ok-latch.ensures in
    let second = subst (λ (y : Shape). Took y c.args.b (g.R.Rows.view c.latch.new.seat) (g.R.Rows.view c.latch-2.new.seat)) o.fits.1 p.ok.1 in
    (o.ok.0, p.ok.0, took_two (took_one c.requires.held c.requires.frames.0 o.ok.1) c.requires.frames.1 o.ok.1 second)

pub returns-in-Err-latch-clause-err : goal.returns-in-Err-latch-clause-err
returns-in-Err-latch-clause-err g c =
    let u = g.R.Rows.view c.latch.new.seat in
    let w = g.R.Rows.view c.latch-2.new.seat in
    let o = c.in-Ok.ensures in
    let e = c.in-Err-latch.ensures in
    let refused = subst (λ (y : Shape). Refused y.alone u w) o.fits.1 e.err in
    let given_up = subst (λ (y : Shape). MissedUpTo 1 y.alone w (g.R.Rows.view c.give_up_one.new.seat)) (e.fits.1 ∙ o.fits.1) c.give_up_one.ensures.missed in
    (missed_then (took_missed o.ok.1) (missed_then refused.missed given_up), c.give_up_one.ensures.fits.2)
