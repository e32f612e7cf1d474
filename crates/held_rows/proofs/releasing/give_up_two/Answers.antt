use Rattle.std.proofs.Common.{sym, subst}
use Rattle.rows_trait.specs.Views.{Shape}
use Rattle.held_rows.specs.Rows.{OpensOne}
use Rattle.held_rows.specs.Steps.{MissedUpTo}
use Rattle.held_rows.specs.Waits.{missed_then}
use Rattle.held_rows.proofs.GivingUp.{one_left, still_unchanged, released_missed}
use Rattle.held_rows.proofs.releasing.give_up_two.Goals as goal

pub give_up_one-requires-clause-one : goal.give_up_one-requires-clause-one
give_up_one-requires-clause-one g c = subst (λ (y : Shape). OpensOne y (g.R.Rows.view c.release.new.seat) c.args.first.row) (sym c.release.ensures.fits.1) (one_left c.requires.two c.release.ensures.step)

pub give_up_one-requires-clause-same : goal.give_up_one-requires-clause-same
give_up_one-requires-clause-same g c = still_unchanged c.release.ensures.step c.requires.two.apart c.requires.same.0

pub returns-clause-missed : goal.returns-clause-missed
returns-clause-missed g c =
    missed_then (released_missed c.requires.two.second c.release.ensures.step) (subst (λ (y : Shape). MissedUpTo 1 y.alone (g.R.Rows.view c.release.new.seat) (g.R.Rows.view c.give_up_one.new.seat)) c.release.ensures.fits.1 c.give_up_one.ensures.missed)
