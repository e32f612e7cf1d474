use Rattle.std.proofs.Common.{subst, sym, length}
use Rattle.btree_descent.specs.rows_trait.Views.{Shape}
use Rattle.btree_smo.specs.Outcomes.{MissedUpTo}
use Rattle.btree_smo.specs.Inside.Purging.{KeepsPlaces}
use Rattle.held_rows.specs.Waits.{missed_then}
use Rattle.btree_smo.proofs.GivingUp.{beside_left, kept_missed}
use Rattle.btree_smo.proofs.release.give_up_places.Goals as goal

pub release_places-requires-clause-places : goal.release_places-requires-clause-places
release_places-requires-clause-places g c =
    subst (λ (y : Shape). KeepsPlaces y (g.R.Rows.view c.release.new.seat) c.args.frames c.args.places.now) (sym c.release.ensures.fits.1) (beside_left c.requires.keeps c.release.ensures.step)

pub returns-clause-missed : goal.returns-clause-missed
returns-clause-missed g c =
    let m = subst (λ (y : Shape). MissedUpTo (length c.args.places.now) y.alone (g.R.Rows.view c.release.new.seat) (g.R.Rows.view c.release_places.new.seat)) c.release.ensures.fits.1 c.release_places.ensures.missed in
    missed_then (kept_missed c.requires.keeps.first c.release.ensures.step) m
