use Rattle.std.proofs.Common.{Option, subst}
use Rattle.row_image.specs.Sights.{HasSeen}
use Rattle.row_image.specs.declared.sight.Sight.{Sight}
use Rattle.page_provider.proofs.Sightings.{none_named}
use Rattle.page_provider.proofs.finding.naming_in.Goals as goal

pub returns-in-None-clause-ok : goal.returns-in-None-clause-ok
returns-in-None-clause-ok g c =
    let z = g.R.Rows.shape c.args.rows.now in
    let v = g.R.Rows.view c.args.seat.now in
    let w = g.R.Rows.view c.sight.new.seat in
    let i = subst (λ (o : Option Sight). HasSeen z.alone c.args.frame v o w) c.in-Some.is c.in_ok-seen.ensures.ok in
    (i.ran, none_named v w c.requires.sound i.ran.given i.stands c.in-None.ensures.none)
