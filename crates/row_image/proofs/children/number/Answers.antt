use Rattle.std.proofs.Common.{◌∙◌, subst}
use Rattle.btree_descent.specs.row_words.Sealed.{Shown}
use Rattle.btree_descent.specs.rows_trait.Views.{state}
use Rattle.row_image.proofs.Watching.{refused_one, watched_load, watched_then, watched_shape}
use Rattle.row_image.proofs.Sighting.{begun_at, again_shape, moved_since}
use Rattle.row_image.proofs.children.number.Goals as goal

pub returns-in-Ok-again-clause-ok : goal.returns-in-Ok-again-clause-ok
returns-in-Ok-again-clause-ok g c =
    let w = g.R.Rows.view c.again.new.seat in
    let o = c.in-Ok.ensures.ok in
    let s1 = c.begin.ensures.fits.1 in
    let load = watched_shape s1 (watched_load c.word-number.ensures.step) in
    let a = again_shape (c.word-number.ensures.fits.1 ∙ s1) c.in-Ok-again.ensures.ok in (
      watched_then o.1.watched (watched_then load a.watched),
      subst (λ q. Shown w.given (state w) q 0 c.word-number.result) o.0 (a.shown 0 c.word-number.result c.word-number.ensures.knows),
    )

pub returns-in-Err-again-clause-err : goal.returns-in-Err-again-clause-err
returns-in-Err-again-clause-err g c =
    let o = c.in-Ok.ensures.ok in
    let s1 = c.begin.ensures.fits.1 in
    let load = watched_shape s1 (watched_load c.word-number.ensures.step) in
    refused_one (λ q is. is ∙ o.0) (moved_since (c.word-number.ensures.fits.1 ∙ s1) (begun_at o.0 o.1) load c.in-Err-again.ensures.err)
