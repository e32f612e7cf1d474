use Rattle.std.proofs.Common.{subst}
use Rattle.btree_descent.specs.row_words.Moments.{pager}
use Rattle.row_image.specs.Images.{IsMissed}
use Rattle.row_image.specs.declared.refusal.Unseen.{Unseen}
use Rattle.page_provider.proofs.Sightings.{unseen_latched, unseen_moved}
use Rattle.page_provider.proofs.finding.sight.Goals as goal

pub returns-in-Err-Moved-clause-err : goal.returns-in-Err-Moved-clause-err
returns-in-Err-Moved-clause-err g c =
    let z = g.R.Rows.shape c.args.rows.now in
    let v = g.R.Rows.view c.args.seat.now in
    let w = g.R.Rows.view c.sight.new.seat in
    let i = subst (λ (q : Unseen). IsMissed z.alone pager v q w) c.in-Err-Moved.field-0-is c.in-Err-Moved.ensures.cause in
    unseen_moved i c.in-Err-Moved.ensures.fits.2 c.in-Err-Moved.ensures.quiet

pub returns-in-Err-Latched-clause-err : goal.returns-in-Err-Latched-clause-err
returns-in-Err-Latched-clause-err g c =
    let z = g.R.Rows.shape c.args.rows.now in
    let v = g.R.Rows.view c.args.seat.now in
    let w = g.R.Rows.view c.sight.new.seat in
    let i = subst (λ (q : Unseen). IsMissed z.alone pager v q w) c.in-Err-Latched.field-0-is c.in-Err-Latched.ensures.cause in
    unseen_latched i c.in-Err-Latched.ensures.fits.2 c.in-Err-Latched.ensures.quiet
