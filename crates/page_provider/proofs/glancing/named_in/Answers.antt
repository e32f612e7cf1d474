use Rattle.std.proofs.Common.{subst, sym, ◌<◌, ◌∙◌}
use Rattle.btree_descent.specs.row_words.Moments.{pager}
use Rattle.btree_descent.specs.row_words.Openings.{opening}
use Rattle.btree_descent.specs.rows_trait.Views.{state}
use Rattle.btree_descent.proofs.Calls.{frames_after}
use Rattle.row_image.specs.Hot.{IsBare}
use Rattle.row_image.proofs.Watching.{watched_load, watched_then, watched_shape, missed_refused, never_refused}
use Rattle.row_image.proofs.Sighting.{begun_at, again_shape, moved_since, bare}
use Rattle.page_provider.specs.Finds.{NamesIn}
use Rattle.page_provider.proofs.Peeks.{names_in}
use Rattle.page_provider.proofs.Asks.{actor_on}
use Rattle.page_provider.proofs.glancing.named_in.Goals as goal

-- ## Under the mark

pub returns-in-Ok-again-clause-kept : goal.returns-in-Ok-again-clause-kept
returns-in-Ok-again-clause-kept g c =
    let o = c.in-Ok.ensures.ok in
    let s1 = c.begin.ensures.fits.1 in
    let k = watched_shape s1 (watched_load c.word-hint.ensures.step) in
    let a = again_shape (c.word-hint.ensures.fits.1 ∙ s1) c.in-Ok-again.ensures.ok in
    watched_then o.1.watched (watched_then k a.watched)

pub returns-in-Ok-again-clause-ok : goal.returns-in-Ok-again-clause-ok
returns-in-Ok-again-clause-ok g c n s inner j l e =
    let y = g.R.Rows.shape c.args.rows.now in
    let v = g.R.Rows.view c.args.seat.now in
    let w = g.R.Rows.view c.again.new.seat in
    let o = c.in-Ok.ensures.ok in
    let s1 = c.begin.ensures.fits.1 in
    let k = watched_shape s1 (watched_load c.word-hint.ensures.step) in
    let a = again_shape (c.word-hint.ensures.fits.1 ∙ s1) c.in-Ok-again.ensures.ok in
    let b = begun_at o.0 o.1 in
    let all = watched_then b.watched (watched_then k a.watched) in
    let lt : c.in-Ok.found.row < (opening w.given).frames = subst (λ r. r < (opening w.given).frames) (sym o.0) (frames_after y v w c.args.frames c.args.frame all.ran.given c.requires.sized c.requires.frame) in
    subst (λ r. IsBare w.given (state w) r) o.0 (bare c.in-Ok.found b k a lt c.word-hint.result c.word-hint.ensures.knows c.if-hint.true) n.number s.stands

pub returns-in-Err-again-clause-cause : goal.returns-in-Err-again-clause-cause
returns-in-Err-again-clause-cause g c =
    let y = g.R.Rows.shape c.args.rows.now in
    let v = g.R.Rows.view c.args.seat.now in
    let w = g.R.Rows.view c.again.new.seat in
    let o = c.in-Ok.ensures.ok in
    let s1 = c.begin.ensures.fits.1 in
    let k = watched_shape s1 (watched_load c.word-hint.ensures.step) in
    missed_refused y.alone pager v w c.in-Err-again.why (moved_since (c.word-hint.ensures.fits.1 ∙ s1) (begun_at o.0 o.1) k c.in-Err-again.ensures.err)

pub returns-in-Err-again-clause-quiet : goal.returns-in-Err-again-clause-quiet
returns-in-Err-again-clause-quiet g c =
    let o = c.in-Ok.ensures.ok in
    let s1 = c.begin.ensures.fits.1 in
    let k = watched_shape s1 (watched_load c.word-hint.ensures.step) in
    never_refused (moved_since (c.word-hint.ensures.fits.1 ∙ s1) (begun_at o.0 o.1) k c.in-Err-again.ensures.err)

-- ## With the words of pairs

pub returns-in-Ok-again-2-clause-kept : goal.returns-in-Ok-again-2-clause-kept
returns-in-Ok-again-2-clause-kept g c =
    let o = c.in-Ok.ensures.ok in
    let s1 = c.begin.ensures.fits.1 in
    let s2 = c.word-hint.ensures.fits.1 ∙ s1 in
    let k = watched_then (watched_shape s1 (watched_load c.word-hint.ensures.step)) (watched_shape s2 c.has_pair-found.ensures.watched) in
    let a = again_shape (c.has_pair-found.ensures.fits.1 ∙ s2) c.in-Ok-again-2.ensures.ok in
    watched_then o.1.watched (watched_then k a.watched)

pub returns-in-Ok-again-2-clause-ok : goal.returns-in-Ok-again-2-clause-ok
returns-in-Ok-again-2-clause-ok g c =
    let y = g.R.Rows.shape c.args.rows.now in
    let v = g.R.Rows.view c.args.seat.now in
    let w = g.R.Rows.view c.again-2.new.seat in
    let row = c.in-Ok.found.row in
    let version = c.in-Ok.found.version in
    let o = c.in-Ok.ensures.ok in
    let s1 = c.begin.ensures.fits.1 in
    let s2 = c.word-hint.ensures.fits.1 ∙ s1 in
    let l = watched_shape s2 c.has_pair-found.ensures.watched in
    let k = watched_then (watched_shape s1 (watched_load c.word-hint.ensures.step)) l in
    let a = again_shape (c.has_pair-found.ensures.fits.1 ∙ s2) c.in-Ok-again-2.ensures.ok in
    let b = begun_at o.0 o.1 in
    let all = watched_then b.watched (watched_then k a.watched) in
    let lt : row < (opening w.given).frames = subst (λ r. r < (opening w.given).frames) (sym o.0) (frames_after y v w c.args.frames c.args.frame all.ran.given c.requires.sized c.requires.frame) in
    subst (λ r. NamesIn r c.args.word c.has_pair-found.result w) o.0
    (names_in c.in-Ok.found b k a lt c.requires.sound c.word-hint.result (l.knows row version 126 c.word-hint.result c.word-hint.ensures.knows) c.if-hint.false c.args.word c.has_pair-found.result c.has_pair-found.ensures.pair)

pub returns-in-Err-again-2-clause-cause : goal.returns-in-Err-again-2-clause-cause
returns-in-Err-again-2-clause-cause g c =
    let y = g.R.Rows.shape c.args.rows.now in
    let v = g.R.Rows.view c.args.seat.now in
    let w = g.R.Rows.view c.again-2.new.seat in
    let o = c.in-Ok.ensures.ok in
    let s1 = c.begin.ensures.fits.1 in
    let s2 = c.word-hint.ensures.fits.1 ∙ s1 in
    let k = watched_then (watched_shape s1 (watched_load c.word-hint.ensures.step)) (watched_shape s2 c.has_pair-found.ensures.watched) in
    missed_refused y.alone pager v w c.in-Err-again-2.why (moved_since (c.has_pair-found.ensures.fits.1 ∙ s2) (begun_at o.0 o.1) k c.in-Err-again-2.ensures.err)

pub returns-in-Err-again-2-clause-quiet : goal.returns-in-Err-again-2-clause-quiet
returns-in-Err-again-2-clause-quiet g c =
    let o = c.in-Ok.ensures.ok in
    let s1 = c.begin.ensures.fits.1 in
    let s2 = c.word-hint.ensures.fits.1 ∙ s1 in
    let k = watched_then (watched_shape s1 (watched_load c.word-hint.ensures.step)) (watched_shape s2 c.has_pair-found.ensures.watched) in
    never_refused (moved_since (c.has_pair-found.ensures.fits.1 ∙ s2) (begun_at o.0 o.1) k c.in-Err-again-2.ensures.err)

pub again-requires-clause-actor : goal.again-requires-clause-actor
again-requires-clause-actor g c =
    let o = c.in-Ok.ensures.ok in
    let s1 = c.begin.ensures.fits.1 in
    let k = watched_shape s1 (watched_load c.word-hint.ensures.step) in
    actor_on (c.word-hint.ensures.fits.1 ∙ s1) (watched_then o.1.watched k) c.requires.actor

pub again-requires-2-clause-actor : goal.again-requires-2-clause-actor
again-requires-2-clause-actor g c =
    let o = c.in-Ok.ensures.ok in
    let s1 = c.begin.ensures.fits.1 in
    let s2 = c.word-hint.ensures.fits.1 ∙ s1 in
    let k = watched_then (watched_shape s1 (watched_load c.word-hint.ensures.step)) (watched_shape s2 c.has_pair-found.ensures.watched) in
    actor_on (c.has_pair-found.ensures.fits.1 ∙ s2) (watched_then o.1.watched k) c.requires.actor

pub returns-in-Ok-again-clause-fits : goal.returns-in-Ok-again-clause-fits
returns-in-Ok-again-clause-fits g c =
    let s1 = c.begin.ensures.fits.1 in
    let k = watched_shape s1 (watched_load c.word-hint.ensures.step) in
    let e = c.in-Ok-again.ensures.fits in
    (e.0, e.1 ∙ (c.word-hint.ensures.fits.1 ∙ s1), e.2 ∙ (k.held ∙ c.begin.ensures.fits.2))

pub returns-in-Err-again-clause-fits : goal.returns-in-Err-again-clause-fits
returns-in-Err-again-clause-fits g c =
    let s1 = c.begin.ensures.fits.1 in
    let k = watched_shape s1 (watched_load c.word-hint.ensures.step) in
    let e = c.in-Err-again.ensures.fits in
    (e.0, e.1 ∙ (c.word-hint.ensures.fits.1 ∙ s1), e.2 ∙ (k.held ∙ c.begin.ensures.fits.2))

pub returns-in-Ok-again-2-clause-fits : goal.returns-in-Ok-again-2-clause-fits
returns-in-Ok-again-2-clause-fits g c =
    let s1 = c.begin.ensures.fits.1 in
    let s2 = c.word-hint.ensures.fits.1 ∙ s1 in
    let k = watched_then (watched_shape s1 (watched_load c.word-hint.ensures.step)) (watched_shape s2 c.has_pair-found.ensures.watched) in
    let e = c.in-Ok-again-2.ensures.fits in
    (e.0, e.1 ∙ (c.has_pair-found.ensures.fits.1 ∙ s2), e.2 ∙ (k.held ∙ c.begin.ensures.fits.2))

pub returns-in-Err-again-2-clause-fits : goal.returns-in-Err-again-2-clause-fits
returns-in-Err-again-2-clause-fits g c =
    let s1 = c.begin.ensures.fits.1 in
    let s2 = c.word-hint.ensures.fits.1 ∙ s1 in
    let k = watched_then (watched_shape s1 (watched_load c.word-hint.ensures.step)) (watched_shape s2 c.has_pair-found.ensures.watched) in
    let e = c.in-Err-again-2.ensures.fits in
    (e.0, e.1 ∙ (c.has_pair-found.ensures.fits.1 ∙ s2), e.2 ∙ (k.held ∙ c.begin.ensures.fits.2))
