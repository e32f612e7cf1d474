use Rattle.std.proofs.Common.{subst, sym, ◌<◌, ◌∙◌}
use Rattle.btree_descent.specs.row_words.Moments.{pager}
use Rattle.btree_descent.specs.row_words.Openings.{opening}
use Rattle.btree_descent.specs.rows_trait.Views.{state}
use Rattle.btree_descent.proofs.Calls.{frames_after}
use Rattle.row_image.specs.Hot.{IsBare}
use Rattle.row_image.proofs.Watching.{watched_load, watched_then, watched_shape, missed_refused, never_refused}
use Rattle.row_image.proofs.Sighting.{begun_at, again_shape, moved_since, bare}
use Rattle.btree_descent.specs.swips.declared.hint.TheConstants.{MARK}
use Rattle.page_provider.proofs.Peeks.{unequal_not}
use Rattle.page_provider.proofs.Asks.{actor_on}
use Rattle.page_provider.proofs.glancing.unmarked.Goals as goal

pub returns-in-Ok-again-clause-kept : goal.returns-in-Ok-again-clause-kept
returns-in-Ok-again-clause-kept g c =
    let o = c.in-Ok.ensures.ok in
    let s1 = c.begin.ensures.fits.1 in
    let k = watched_shape s1 (watched_load c.word-hint.ensures.step) in
    let a = again_shape (c.word-hint.ensures.fits.1 ∙ s1) c.in-Ok-again.ensures.ok in
    watched_then o.1.watched (watched_then k a.watched)

pub returns-in-Ok-again-clause-ok : goal.returns-in-Ok-again-clause-ok
returns-in-Ok-again-clause-ok g c marked =
    let y = g.R.Rows.shape c.args.rows.now in
    let v = g.R.Rows.view c.args.seat.now in
    let w = g.R.Rows.view c.again.new.seat in
    let o = c.in-Ok.ensures.ok in
    let s1 = c.begin.ensures.fits.1 in
    let k = watched_shape s1 (watched_load c.word-hint.ensures.step) in
    let a = again_shape (c.word-hint.ensures.fits.1 ∙ s1) c.in-Ok-again.ensures.ok in
    let b = begun_at o.0 o.1 in
    let all = watched_then b.watched (watched_then k a.watched) in
    let lt : c.in-Ok.found.row < (opening w.given).frames = subst (λ r. r < (opening w.given).frames) (sym o.0) (frames_after y v w c.args.frames c.args.frame all.ran.given c.requires.sized c.requires.frame) in
    subst (λ r. IsBare w.given (state w) r) o.0 (bare c.in-Ok.found b k a lt c.word-hint.result c.word-hint.ensures.knows (unequal_not c.word-hint.result MARK marked))

pub returns-in-Err-again-clause-cause : goal.returns-in-Err-again-clause-cause
returns-in-Err-again-clause-cause g c =
    let y = g.R.Rows.shape c.args.rows.now in
    let v = g.R.Rows.view c.args.seat.now in
    let w = g.R.Rows.view c.again.new.seat in
    let o = c.in-Ok.ensures.ok in
    let s1 = c.begin.ensures.fits.1 in
    let k = watched_shape s1 (watched_load c.word-hint.ensures.step) in
    missed_refused y.alone pager v w c.in-Err-again.why (moved_since (c.word-hint.ensures.fits.1 ∙ s1) (begun_at o.0 o.1) k c.in-Err-again.ensures.err)

pub returns-in-Err-again-clause-quiet : goal.returns-in-Err-again-clause-quiet
returns-in-Err-again-clause-quiet g c =
    let o = c.in-Ok.ensures.ok in
    let s1 = c.begin.ensures.fits.1 in
    let k = watched_shape s1 (watched_load c.word-hint.ensures.step) in
    never_refused (moved_since (c.word-hint.ensures.fits.1 ∙ s1) (begun_at o.0 o.1) k c.in-Err-again.ensures.err)

pub again-requires-clause-actor : goal.again-requires-clause-actor
again-requires-clause-actor g c =
    let o = c.in-Ok.ensures.ok in
    let s1 = c.begin.ensures.fits.1 in
    let k = watched_shape s1 (watched_load c.word-hint.ensures.step) in
    actor_on (c.word-hint.ensures.fits.1 ∙ s1) (watched_then o.1.watched k) c.requires.actor

pub returns-in-Ok-again-clause-fits : goal.returns-in-Ok-again-clause-fits
returns-in-Ok-again-clause-fits g c =
    let s1 = c.begin.ensures.fits.1 in
    let k = watched_shape s1 (watched_load c.word-hint.ensures.step) in
    let e = c.in-Ok-again.ensures.fits in
    (e.0, e.1 ∙ (c.word-hint.ensures.fits.1 ∙ s1), e.2 ∙ (k.held ∙ c.begin.ensures.fits.2))

pub returns-in-Err-again-clause-fits : goal.returns-in-Err-again-clause-fits
returns-in-Err-again-clause-fits g c =
    let s1 = c.begin.ensures.fits.1 in
    let k = watched_shape s1 (watched_load c.word-hint.ensures.step) in
    let e = c.in-Err-again.ensures.fits in
    (e.0, e.1 ∙ (c.word-hint.ensures.fits.1 ∙ s1), e.2 ∙ (k.held ∙ c.begin.ensures.fits.2))
