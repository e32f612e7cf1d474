use Rattle.std.proofs.Common.{◌∙◌, subst}
use Rattle.rows_trait.specs.Views.{Shape}
use Rattle.held_rows.specs.Steps.{MissedUpTo}
use Rattle.held_rows.specs.Latching.{Took, Refused}
use Rattle.held_rows.specs.Waits.{missed_then}
use Rattle.held_rows.proofs.TakingMore.{took_three, two_missed}
use Rattle.held_rows.proofs.latching.latch_three.Goals as goal

pub returns-in-Ok-latch-clause-ok : goal.returns-in-Ok-latch-clause-ok
returns-in-Ok-latch-clause-ok g c =
    let o = c.in-Ok.ensures in
    let p = c.in-Ok-latch.ensures in
    let third = subst (λ (y : Shape). Took y c.args.d (g.R.Rows.view c.latch_two.new.seat) (g.R.Rows.view c.latch.new.seat)) o.fits.1 p.ok.1 in
    (o.ok.0, o.ok.1, p.ok.0, took_three c.requires.frames.2 o.ok.2 third)

pub returns-in-Err-latch-clause-err : goal.returns-in-Err-latch-clause-err
returns-in-Err-latch-clause-err g c =
    let u = g.R.Rows.view c.latch_two.new.seat in
    let w = g.R.Rows.view c.latch.new.seat in
    let o = c.in-Ok.ensures in
    let e = c.in-Err-latch.ensures in
    let refused = subst (λ (y : Shape). Refused y.alone u w) o.fits.1 e.err in
    let given_up = subst (λ (y : Shape). MissedUpTo 2 y.alone w (g.R.Rows.view c.give_up_two.new.seat)) (e.fits.1 ∙ o.fits.1) c.give_up_two.ensures.missed in
    (missed_then (two_missed o.ok.2) (missed_then refused.missed given_up), c.give_up_two.ensures.fits.2)
