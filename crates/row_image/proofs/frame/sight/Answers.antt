use Rattle.std.proofs.Common.{◌∙◌, ◌<◌, sym, subst}
use Rattle.btree_descent.specs.row_words.Openings.{opening}
use Rattle.btree_descent.specs.rows_trait.Views.{state}
use Rattle.btree_descent.proofs.Calls.{frames_after}
use Rattle.row_image.specs.Hot.{IsBare}
use Rattle.row_image.proofs.Watching.{watched_load, watched_then, watched_shape, missed_refused, never_refused}
use Rattle.row_image.proofs.Sighting.{begun_at, again_shape, moved_since, bare, here, is_sight, sight_at}
use Rattle.row_image.proofs.frame.sight.Goals as goal

-- ## Under the mark

pub returns-in-Ok-again-clause-kept : goal.returns-in-Ok-again-clause-kept
returns-in-Ok-again-clause-kept g c =
    let o = c.in-Ok.ensures.ok in
    let s1 = c.begin.ensures.fits.1 in
    let k = watched_shape s1 (watched_load c.word-hint.ensures.step) in
    let a = again_shape (c.word-hint.ensures.fits.1 ∙ s1) c.in-Ok-again.ensures.ok in
    watched_then o.1.watched (watched_then k a.watched)

pub returns-in-Ok-again-clause-answer : goal.returns-in-Ok-again-clause-answer
returns-in-Ok-again-clause-answer g c =
    let y = g.R.Rows.shape c.args.rows.now in
    let v = g.R.Rows.view c.args.seat.now in
    let w = g.R.Rows.view c.again.new.seat in
    let o = c.in-Ok.ensures.ok in
    let s1 = c.begin.ensures.fits.1 in
    let k = watched_shape s1 (watched_load c.word-hint.ensures.step) in
    let a = again_shape (c.word-hint.ensures.fits.1 ∙ s1) c.in-Ok-again.ensures.ok in
    let b = begun_at o.0 o.1 in
    let all = watched_then b.watched (watched_then k a.watched) in
    let lt : c.in-Ok.found.row < (opening w.given).frames = subst (λ r. r < (opening w.given).frames) (sym o.0) (frames_after y v w c.args.frames c.args.row all.ran.given c.requires.sized c.requires.row) in
    (all.ran, subst (λ r. IsBare w.given (state w) r) o.0 (bare c.in-Ok.found b k a lt c.word-hint.result c.word-hint.ensures.knows c.if-hint.true))

pub returns-in-Err-again-clause-cause : goal.returns-in-Err-again-clause-cause
returns-in-Err-again-clause-cause g c =
    let y = g.R.Rows.shape c.args.rows.now in
    let v = g.R.Rows.view c.args.seat.now in
    let w = g.R.Rows.view c.again.new.seat in
    let o = c.in-Ok.ensures.ok in
    let s1 = c.begin.ensures.fits.1 in
    let k = watched_shape s1 (watched_load c.word-hint.ensures.step) in
    missed_refused y.alone c.args.actor v w c.in-Err-again.why (moved_since (c.word-hint.ensures.fits.1 ∙ s1) (begun_at o.0 o.1) k c.in-Err-again.ensures.err)

pub returns-in-Err-again-clause-quiet : goal.returns-in-Err-again-clause-quiet
returns-in-Err-again-clause-quiet g c =
    let o = c.in-Ok.ensures.ok in
    let s1 = c.begin.ensures.fits.1 in
    let k = watched_shape s1 (watched_load c.word-hint.ensures.step) in
    never_refused (moved_since (c.word-hint.ensures.fits.1 ∙ s1) (begun_at o.0 o.1) k c.in-Err-again.ensures.err)

-- ## With all words

pub returns-in-Err-again-2-clause-cause : goal.returns-in-Err-again-2-clause-cause
returns-in-Err-again-2-clause-cause g c =
    let y = g.R.Rows.shape c.args.rows.now in
    let v = g.R.Rows.view c.args.seat.now in
    let w = g.R.Rows.view c.again-2.new.seat in
    let o = c.in-Ok.ensures.ok in
    let s1 = c.begin.ensures.fits.1 in
    let s2 = c.word-hint.ensures.fits.1 ∙ s1 in
    let k = watched_then (watched_shape s1 (watched_load c.word-hint.ensures.step)) (watched_shape s2 c.load.ensures.watched) in
    missed_refused y.alone c.args.actor v w c.in-Err-again-2.why (moved_since (c.load.ensures.fits.1 ∙ s2) (begun_at o.0 o.1) k c.in-Err-again-2.ensures.err)

pub returns-in-Err-again-2-clause-quiet : goal.returns-in-Err-again-2-clause-quiet
returns-in-Err-again-2-clause-quiet g c =
    let o = c.in-Ok.ensures.ok in
    let s1 = c.begin.ensures.fits.1 in
    let s2 = c.word-hint.ensures.fits.1 ∙ s1 in
    let k = watched_then (watched_shape s1 (watched_load c.word-hint.ensures.step)) (watched_shape s2 c.load.ensures.watched) in
    never_refused (moved_since (c.load.ensures.fits.1 ∙ s2) (begun_at o.0 o.1) k c.in-Err-again-2.ensures.err)

pub unreachable-requires : goal.unreachable-requires
unreachable-requires g c =
    let y = g.R.Rows.shape c.args.rows.now in
    let v = g.R.Rows.view c.args.seat.now in
    let w = g.R.Rows.view c.again-2.new.seat in
    let row = c.in-Ok.found.row in
    let version = c.in-Ok.found.version in
    let o = c.in-Ok.ensures.ok in
    let s1 = c.begin.ensures.fits.1 in
    let s2 = c.word-hint.ensures.fits.1 ∙ s1 in
    let l = watched_shape s2 c.load.ensures.watched in
    let k = watched_then (watched_shape s1 (watched_load c.word-hint.ensures.step)) l in
    let a = again_shape (c.load.ensures.fits.1 ∙ s2) c.in-Ok-again-2.ensures.ok in
    let b = begun_at o.0 o.1 in
    let all = watched_then b.watched (watched_then k a.watched) in
    let lt : row < (opening w.given).frames = subst (λ r. r < (opening w.given).frames) (sym o.0) (frames_after y v w c.args.frames c.args.row all.ran.given c.requires.sized c.requires.row) in
    let h = here c.in-Ok.found b k a lt c.word-hint.result (l.knows row version 126 c.word-hint.result c.word-hint.ensures.knows) c.load.new.into c.load.array_long c.load.ensures.words c.requires.sound c.if-hint.false in
    c.in_default.ensures.cause _ h.spells

pub returns-in-Some-clause-answer : goal.returns-in-Some-clause-answer
returns-in-Some-clause-answer g c =
    let y = g.R.Rows.shape c.args.rows.now in
    let v = g.R.Rows.view c.args.seat.now in
    let w = g.R.Rows.view c.again-2.new.seat in
    let row = c.in-Ok.found.row in
    let version = c.in-Ok.found.version in
    let o = c.in-Ok.ensures.ok in
    let s1 = c.begin.ensures.fits.1 in
    let s2 = c.word-hint.ensures.fits.1 ∙ s1 in
    let l = watched_shape s2 c.load.ensures.watched in
    let k = watched_then (watched_shape s1 (watched_load c.word-hint.ensures.step)) l in
    let a = again_shape (c.load.ensures.fits.1 ∙ s2) c.in-Ok-again-2.ensures.ok in
    let b = begun_at o.0 o.1 in
    let all = watched_then b.watched (watched_then k a.watched) in
    let lt : row < (opening w.given).frames = subst (λ r. r < (opening w.given).frames) (sym o.0) (frames_after y v w c.args.frames c.args.row all.ran.given c.requires.sized c.requires.row) in
    sight_at o.0
    (is_sight c.in-Ok.found b k a lt c.word-hint.result (l.knows row version 126 c.word-hint.result c.word-hint.ensures.knows) c.load.new.into c.load.array_long c.load.ensures.words c.requires.sound c.if-hint.false c.in-Some.node c.in-Some.ensures.answer)

pub returns-in-Some-clause-kept : goal.returns-in-Some-clause-kept
returns-in-Some-clause-kept g c =
    let o = c.in-Ok.ensures.ok in
    let s1 = c.begin.ensures.fits.1 in
    let s2 = c.word-hint.ensures.fits.1 ∙ s1 in
    let k = watched_then (watched_shape s1 (watched_load c.word-hint.ensures.step)) (watched_shape s2 c.load.ensures.watched) in
    let a = again_shape (c.load.ensures.fits.1 ∙ s2) c.in-Ok-again-2.ensures.ok in
    watched_then o.1.watched (watched_then k a.watched)
