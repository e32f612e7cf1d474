use Rattle.std.proofs.Common.{sym, subst}
use Rattle.rows_trait.specs.Views.{Shape}
use Rattle.held_rows.specs.Rows.{OpensTwo}
use Rattle.held_rows.specs.Steps.{MissedUpTo}
use Rattle.held_rows.specs.Waits.{missed_then}
use Rattle.held_rows.proofs.GivingUp.{two_left, still_unchanged, released_missed}
use Rattle.held_rows.proofs.releasing.give_up_three.Goals as goal

pub give_up_two-requires-clause-two : goal.give_up_two-requires-clause-two
give_up_two-requires-clause-two g c = subst (λ (y : Shape). OpensTwo y (g.R.Rows.view c.release.new.seat) c.args.first.row c.args.second.row) (sym c.release.ensures.fits.1) (two_left c.requires.three c.release.ensures.step)

pub give_up_two-requires-clause-same : goal.give_up_two-requires-clause-same
give_up_two-requires-clause-same g c =
    let r = c.release.ensures.step in
    let t = c.requires.three in
    (still_unchanged r t.far c.requires.same.0, still_unchanged r t.near c.requires.same.1)

pub returns-clause-missed : goal.returns-clause-missed
returns-clause-missed g c =
    missed_then (released_missed c.requires.three.third c.release.ensures.step) (subst (λ (y : Shape). MissedUpTo 2 y.alone (g.R.Rows.view c.release.new.seat) (g.R.Rows.view c.give_up_two.new.seat)) c.release.ensures.fits.1 c.give_up_two.ensures.missed)
