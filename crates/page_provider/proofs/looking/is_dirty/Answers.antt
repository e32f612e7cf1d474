use Rattle.std.proofs.Common.{◌∙◌, ℕ, [], sym, ap, subst}
use Rattle.btree_descent.specs.row_words.Moments.{pager}
use Rattle.btree_descent.specs.row_words.Sealed.{Shown}
use Rattle.btree_descent.specs.rows_trait.Causes.{HasFound}
use Rattle.btree_descent.specs.rows_trait.Turns.{Looked}
use Rattle.btree_descent.specs.rows_trait.Views.{Shape, may, state}
use Rattle.btree_descent.proofs.rows_trait.Causes.{found_after}
use Rattle.btree_descent.proofs.rows_trait.Runs.{ran_append}
use Rattle.btree_descent.specs.version_latch.Named.{checked, missed}
use Rattle.btree_descent.proofs.version_latch.Keeping.{kept_load, kept_same, kept_then, looked_after, looked_latest, may_ran, may_shape}
use Rattle.btree_descent.proofs.version_latch.Naming.{checked_same, checked_silent, missed_silent}
use Rattle.page_provider.proofs.Glances.{judges, look_moved, start_missed, start_ran}
use Rattle.page_provider.proofs.looking.is_dirty.Goals as goal

pub start-requires-clause-event : goal.start-requires-clause-event
start-requires-clause-event g c n =
    let z = g.R.Rows.shape c.args.rows.now in
    let v = g.R.Rows.view c.args.seat.now in
    missed_silent (may z.alone v) v.given pager n c.requires.actor

pub returns-in-Err-clause-err : goal.returns-in-Err-clause-err
returns-in-Err-clause-err g c =
    let e = c.in-Err.ensures.err in
    start_missed c.requires.actor e.1 e.2 c.in-Err.ensures.cause

pub check-requires-clause-event : goal.check-requires-clause-event
check-requires-clause-event g c n =
    let z = g.R.Rows.shape c.args.rows.now in
    let y = g.R.Rows.shape c.word-saved.new.rows in
    let v = g.R.Rows.view c.args.seat.now in
    let u = g.R.Rows.view c.start.new.seat in
    let a = g.R.Rows.view c.word-number.new.seat in
    let b = g.R.Rows.view c.word-saved.new.seat in
    let o = c.in-Ok.ensures.ok in
    let s1 = c.in-Ok.ensures.fits.1 in
    let s2 = c.word-number.ensures.fits.1 ∙ s1 in
    let first = kept_same (g.R.Rows.shape c.start.new.rows) z u a s1 (kept_load (g.R.Rows.shape c.start.new.rows) c.in-Ok.found.row 1 c.word-number.result u a c.word-number.ensures.step) in
    let second = kept_same (g.R.Rows.shape c.word-number.new.rows) z a b s2 (kept_load (g.R.Rows.shape c.word-number.new.rows) c.in-Ok.found.row 127 c.word-saved.result a b c.word-saved.ensures.step) in
    let k = kept_then z.alone u a b first second in
    let r = ran_append z.alone v [] u [] b (start_ran o.1 o.3) k.ran in
    checked_silent (may y.alone b) b.given pager c.in-Ok.found.version n (may_shape y z b pager (c.word-saved.ensures.fits.1 ∙ s2) (may_ran z.alone v b [] pager r c.requires.actor))

pub returns-in-Ok-check-clause-ok : goal.returns-in-Ok-check-clause-ok
returns-in-Ok-check-clause-ok g c =
    let z = g.R.Rows.shape c.args.rows.now in
    let v = g.R.Rows.view c.args.seat.now in
    let u = g.R.Rows.view c.start.new.seat in
    let a = g.R.Rows.view c.word-number.new.seat in
    let b = g.R.Rows.view c.word-saved.new.seat in
    let w = g.R.Rows.view c.check.new.seat in
    let o = c.in-Ok.ensures.ok in
    let row = c.in-Ok.found.row in
    let version = c.in-Ok.found.version in
    let s1 = c.in-Ok.ensures.fits.1 in
    let s2 = c.word-number.ensures.fits.1 ∙ s1 in
    let s3 = c.word-saved.ensures.fits.1 ∙ s2 in
    let first = kept_same (g.R.Rows.shape c.start.new.rows) z u a s1 (kept_load (g.R.Rows.shape c.start.new.rows) row 1 c.word-number.result u a c.word-number.ensures.step) in
    let second = kept_same (g.R.Rows.shape c.word-number.new.rows) z a b s2 (kept_load (g.R.Rows.shape c.word-number.new.rows) row 127 c.word-saved.result a b c.word-saved.ensures.step) in
    let k = kept_then z.alone u a b first second in
    let r = ran_append z.alone v [] u [] b (start_ran o.1 o.3) k.ran in
    let all = looked_after (g.R.Rows.shape c.word-saved.new.rows) z row version (checked pager version) v b w [] s3 r c.in-Ok-check.ensures.ok (checked_same pager version) tt in
    let shown : (i x : ℕ) → Shown w.given (state w) row i x → Shown w.given (state w) c.args.frame i x = λ i x s. subst (λ q. Shown w.given (state w) q i x) o.0 s in
    judges c.args.frame c.args.frames c.word-number.result c.word-saved.result c.requires.sized c.requires.frame all
    (shown 1 c.word-number.result (c.in-Ok-check.ensures.valid 1 c.word-number.result (second.knows row version 1 c.word-number.result c.word-number.ensures.knows)))
    (shown 127 c.word-saved.result (c.in-Ok-check.ensures.valid 127 c.word-saved.result c.word-saved.ensures.knows))

pub returns-in-Err-check-clause-err : goal.returns-in-Err-check-clause-err
returns-in-Err-check-clause-err g c =
    let z = g.R.Rows.shape c.args.rows.now in
    let v = g.R.Rows.view c.args.seat.now in
    let u = g.R.Rows.view c.start.new.seat in
    let a = g.R.Rows.view c.word-number.new.seat in
    let b = g.R.Rows.view c.word-saved.new.seat in
    let w = g.R.Rows.view c.check.new.seat in
    let o = c.in-Ok.ensures.ok in
    let e = c.in-Err-check.ensures.err in
    let m = c.in-Err-check.moved in
    let row = c.in-Ok.found.row in
    let version = c.in-Ok.found.version in
    let s1 = c.in-Ok.ensures.fits.1 in
    let s2 = c.word-number.ensures.fits.1 ∙ s1 in
    let s3 = c.word-saved.ensures.fits.1 ∙ s2 in
    let first = kept_same (g.R.Rows.shape c.start.new.rows) z u a s1 (kept_load (g.R.Rows.shape c.start.new.rows) row 1 c.word-number.result u a c.word-number.ensures.step) in
    let second = kept_same (g.R.Rows.shape c.word-number.new.rows) z a b s2 (kept_load (g.R.Rows.shape c.word-number.new.rows) row 127 c.word-saved.result a b c.word-saved.ensures.step) in
    let k = kept_then z.alone u a b first second in
    let r = ran_append z.alone v [] u [] b (start_ran o.1 o.3) k.ran in
    let found = found_after row version v u b (subst (λ q. HasFound q version v u) (sym o.0) c.in-Ok.ensures.since.1) k.loads in
    let last = k.latest row ∙ ap (λ q. Rattle.btree_descent.specs.rows_trait.Views.latest q u.steps) o.0 ∙ looked_latest z c.args.frame version (missed pager) v u o.3 in
    let look = subst (λ (s : Shape). Looked s row (checked pager version) b m.found w) s3 e.3 in
    look_moved c.requires.actor r (k.held ∙ o.3.held) (λ _. last) (λ q. e.2 (q ∙ sym e.1)) look (c.in-Err-check.ensures.cause v found)
