use Rattle.std.proofs.Common.{inl}
use Rattle.held_rows.proofs.Holding.{none_held}
use Rattle.held_rows.proofs.GivingUp.{held_before, released_missed}
use Rattle.held_rows.proofs.releasing.give_up_one.Goals as goal

pub returns-clause-fits : goal.returns-clause-fits
returns-clause-fits g c =
    let f = c.release.ensures.fits in
    (f.0, f.1, none_held (g.R.Rows.view c.release.new.seat).held (held_before c.release.ensures.step (λ q. ⊥) (λ q h. inl (c.requires.one.only q h))))

pub returns-clause-missed : goal.returns-clause-missed
returns-clause-missed g c = released_missed c.requires.one.first c.release.ensures.step
