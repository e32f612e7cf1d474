use Rattle.std.proofs.Common.{subst}
use Rattle.btree_descent.specs.version_latch.declared.glimpse.Unheld.{Unheld}
use Rattle.row_image.specs.Sights.{IsUnheld}
use Rattle.btree_descent.specs.row_words.Moments.{pager}
use Rattle.page_provider.proofs.Latches.{spent_seen, stopped_spent, takes_seen}
use Rattle.page_provider.proofs.Loaded.{moved_loaded}
use Rattle.page_provider.proofs.latching.take_seen.Goals as goal

pub returns-in-Ok-clause-ok : goal.returns-in-Ok-clause-ok
returns-in-Ok-clause-ok g c = let a = c.in-Ok.ensures.answer in (a.0, takes_seen c.requires.held c.requires.seen a.1)

pub returns-in-Err-Moved-clause-cause : goal.returns-in-Err-Moved-clause-cause
returns-in-Err-Moved-clause-cause g c from f =
    let z = g.R.Rows.shape c.args.rows.now in
    let v = g.R.Rows.view c.args.seat.now in
    let w = g.R.Rows.view c.take.new.seat in
    let k = subst (λ (q : Unheld). IsUnheld z.alone pager c.args.seen.now v q w) c.in-Err-Moved.field-0-is c.in-Err-Moved.ensures.cause in
    moved_loaded (k.cause from f)

pub returns-in-Err-RowSpent-clause-err : goal.returns-in-Err-RowSpent-clause-err
returns-in-Err-RowSpent-clause-err g c =
    let z = g.R.Rows.shape c.args.rows.now in
    let v = g.R.Rows.view c.args.seat.now in
    let w = g.R.Rows.view c.take.new.seat in
    let k = subst (λ (q : Unheld). IsUnheld z.alone pager c.args.seen.now v q w) c.in-Err-RowSpent.field-0-is c.in-Err-RowSpent.ensures.cause in
    stopped_spent c.requires.held k.1

pub returns-in-Err-RowSpent-clause-cause : goal.returns-in-Err-RowSpent-clause-cause
returns-in-Err-RowSpent-clause-cause g c from f =
    let z = g.R.Rows.shape c.args.rows.now in
    let v = g.R.Rows.view c.args.seat.now in
    let w = g.R.Rows.view c.take.new.seat in
    let k = subst (λ (q : Unheld). IsUnheld z.alone pager c.args.seen.now v q w) c.in-Err-RowSpent.field-0-is c.in-Err-RowSpent.ensures.cause in
    spent_seen c.requires.seen k.0 k.1 f
