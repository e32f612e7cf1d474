use Rattle.std.proofs.Common.{◌≡◌, ◌∙◌, ℕ, [], Some, ap, arith, subst, sym}
use Rattle.btree_descent.specs.row_words.Moments.{pager}
use Rattle.btree_descent.specs.row_words.Sealed.{Shown}
use Rattle.btree_descent.specs.rows_trait.Turns.{Ran}
use Rattle.btree_descent.specs.rows_trait.Views.{Shape, holds, latest, may, state}
use Rattle.btree_descent.specs.version_latch.Named.{missed}
use Rattle.btree_descent.proofs.version_latch.Keeping.{looked_latest}
use Rattle.btree_descent.proofs.version_latch.Naming.{missed_silent}
use Rattle.row_image.proofs.Watching.{check_silent, watched_check, watched_load, watched_shape, watched_start, watched_then}
use Rattle.row_saver.proofs.RunLemmas.{acts}
use Rattle.row_saver.proofs.looking.words_in.Goals as goal

pub start-requires-clause-event : goal.start-requires-clause-event
start-requires-clause-event g c n =
    let z = g.R.Rows.shape c.args.rows.now in
    let v = g.R.Rows.view c.args.seat.now in
    missed_silent (may z.alone v) v.given pager n (acts z v pager c.requires.alone)

-- no row is held, so the latch is even
pub unreachable-requires : goal.unreachable-requires
unreachable-requires g c =
    let e = c.in-Err.ensures.err in
    let odd = e.1 in
    let even = e.2.free c.requires.alone (ap (λ hs. holds hs c.args.frame) c.requires.held) in
    absurd (omega arith)

pub check-requires-clause-event : goal.check-requires-clause-event
check-requires-clause-event g c n =
    let z = g.R.Rows.shape c.args.rows.now in
    let v = g.R.Rows.view c.args.seat.now in
    let o = c.in-Ok.ensures.ok in
    let s1 = c.in-Ok.ensures.fits.1 in
    let s2 = c.word-page.ensures.fits.1 ∙ s1 in
    let s3 = c.word-gsn.ensures.fits.1 ∙ s2 in
    let s4 = c.word-hint.ensures.fits.1 ∙ s3 in
    let k = watched_then (watched_start pager o.1 o.3) (watched_then (watched_shape s1 (watched_load c.word-page.ensures.step)) (watched_then (watched_shape s2 (watched_load c.word-gsn.ensures.step))
    (watched_then (watched_shape s3 (watched_load c.word-hint.ensures.step)) (watched_shape s4 (watched_load c.word-saved.ensures.step))))) in
    check_silent pager c.in-Ok.found.version n (acts z v pager c.requires.alone) (c.word-saved.ensures.fits.1 ∙ s4) k

-- nobody else steps, so the row has the version still
pub unreachable-requires-in-Err-check : goal.unreachable-requires-in-Err-check
unreachable-requires-in-Err-check g c =
    let z = g.R.Rows.shape c.args.rows.now in
    let v = g.R.Rows.view c.args.seat.now in
    let u = g.R.Rows.view c.start.new.seat in
    let o = c.in-Ok.ensures.ok in
    let row = c.in-Ok.found.row in
    let version = c.in-Ok.found.version in
    let s1 = c.in-Ok.ensures.fits.1 in
    let s2 = c.word-page.ensures.fits.1 ∙ s1 in
    let s3 = c.word-gsn.ensures.fits.1 ∙ s2 in
    let s4 = c.word-hint.ensures.fits.1 ∙ s3 in
    let s5 = c.word-saved.ensures.fits.1 ∙ s4 in
    let k = watched_then (watched_shape s1 (watched_load c.word-page.ensures.step)) (watched_then (watched_shape s2 (watched_load c.word-gsn.ensures.step))
    (watched_then (watched_shape s3 (watched_load c.word-hint.ensures.step)) (watched_shape s4 (watched_load c.word-saved.ensures.step)))) in
    let first : latest row u.steps ≡ Some version = ap (λ q. latest q u.steps) o.0 ∙ looked_latest z c.args.frame version (missed pager) v u o.3 in
    let last = k.latest c.requires.alone row version first in
    let e = c.in-Err-check.ensures.err in
    e.2 (e.3.steady (ap (λ (s : Shape). s.alone) s5 ∙ c.requires.alone) version last ∙ sym e.1)

pub returns-clause-looks : goal.returns-clause-looks
returns-clause-looks g c =
    let v = g.R.Rows.view c.args.seat.now in
    let w = g.R.Rows.view c.check.new.seat in
    let o = c.in-Ok.ensures.ok in
    let s1 = c.in-Ok.ensures.fits.1 in
    let s2 = c.word-page.ensures.fits.1 ∙ s1 in
    let s3 = c.word-gsn.ensures.fits.1 ∙ s2 in
    let s4 = c.word-hint.ensures.fits.1 ∙ s3 in
    let s5 = c.word-saved.ensures.fits.1 ∙ s4 in
    let k = watched_then (watched_start pager o.1 o.3) (watched_then (watched_shape s1 (watched_load c.word-page.ensures.step)) (watched_then (watched_shape s2 (watched_load c.word-gsn.ensures.step))
    (watched_then (watched_shape s3 (watched_load c.word-hint.ensures.step)) (watched_then (watched_shape s4 (watched_load c.word-saved.ensures.step)) (watched_shape s5 (watched_check pager c.in-Ok-check.ensures.ok)))))) in
    record { ran = subst (λ b. Ran b v [] w) c.requires.alone k.ran; held = k.held ∙ c.requires.held }

pub returns-clause-shows : goal.returns-clause-shows
returns-clause-shows g c =
    let w = g.R.Rows.view c.check.new.seat in
    let row = c.in-Ok.found.row in
    let version = c.in-Ok.found.version in
    let s1 = c.in-Ok.ensures.fits.1 in
    let s2 = c.word-page.ensures.fits.1 ∙ s1 in
    let s3 = c.word-gsn.ensures.fits.1 ∙ s2 in
    let s4 = c.word-hint.ensures.fits.1 ∙ s3 in
    let third = watched_shape s4 (watched_load c.word-saved.ensures.step) in
    let second = watched_then (watched_shape s3 (watched_load c.word-hint.ensures.step)) third in
    let first = watched_then (watched_shape s2 (watched_load c.word-gsn.ensures.step)) second in
    let valid = c.in-Ok-check.ensures.valid in
    let shown : (i x : ℕ) → Shown w.given (state w) row i x → Shown w.given (state w) c.args.frame i x = λ i x s. subst (λ q. Shown w.given (state w) q i x) c.in-Ok.ensures.ok.0 s in
    record {
      page = shown 0 c.word-page.result (valid 0 c.word-page.result (first.knows row version 0 c.word-page.result c.word-page.ensures.knows));
      gsn = shown 1 c.word-gsn.result (valid 1 c.word-gsn.result (second.knows row version 1 c.word-gsn.result c.word-gsn.ensures.knows));
      hint = shown 126 c.word-hint.result (valid 126 c.word-hint.result (third.knows row version 126 c.word-hint.result c.word-hint.ensures.knows));
      saved = shown 127 c.word-saved.result (valid 127 c.word-saved.result c.word-saved.ensures.knows);
    }
