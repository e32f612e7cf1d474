use Rattle.std.proofs.Common.{◌%◌, ◌/◌, ◌∙◌, refl, sym, subst, [], ◌∷◌}
use Rattle.lean_proto.specs.row_words.declared.event.Event.TheVariants.{Miss}
use Rattle.lean_proto.specs.row_words.declared.event.Met.TheVariants as met
use Rattle.lean_proto.specs.rows_trait.Views.{Shape, may, state}
use Rattle.lean_proto.proofs.rows_trait.Causes.{found_after}
use Rattle.lean_proto.proofs.rows_trait.Runs.{ran_append}
use Rattle.lean_proto.specs.version_latch.Named.{checked}
use Rattle.lean_proto.proofs.version_latch.Naming.{checked_silent, checked_same, checked_other}
use Rattle.lean_proto.proofs.version_latch.Keeping.{kept_load, kept_same, kept_then, looked_after, may_ran, may_shape, ran_shape}
use Rattle.btree_descent.specs.Meets.{IsFollowed}
use Rattle.btree_descent.proofs.Calls.{sound_after, frames_after}
use Rattle.btree_descent.proofs.Nodes.{leaf_in}
use Rattle.btree_descent.proofs.Telling.{may_on, follow_pair, follow_none, walked_of, unlocked_of}
use Rattle.btree_descent.proofs.Ways.{head_after, leaf_after}
use Rattle.btree_descent.proofs.next.tell.Goals as goal

pub follow-requires-clause-leaf : goal.follow-requires-clause-leaf
follow-requires-clause-leaf g c =
    let y = g.R.Rows.shape c.args.rows.now in
    let v = g.R.Rows.view c.args.seat.now in
    let t = g.R.Rows.view c.word-number.new.seat in
    let x = g.R.Rows.shape c.word-number.new.rows in
    let u = g.R.Rows.view c.walk.new.seat in
    let row = c.args.leaf.now.glimpse.row in
    let version = c.args.leaf.now.glimpse.version in
    let kept = kept_then y.alone v t u (kept_load y row 1 c.word-number.result v t c.word-number.ensures.step) (kept_same x y t u c.word-number.ensures.fits.1 c.walk.ensures.kept) in
    let z = g.R.Rows.shape c.walk.new.rows in
    let same = c.walk.ensures.fits.1 ∙ c.word-number.ensures.fits.1 in
    leaf_after z y v u c.args.worker c.args.frames c.args.key c.args.leaf.now.glimpse c.args.leaf.now.head same kept c.requires.leaf

pub follow-requires-clause-may : goal.follow-requires-clause-may
follow-requires-clause-may g c =
    let y = g.R.Rows.shape c.args.rows.now in
    let v = g.R.Rows.view c.args.seat.now in
    let t = g.R.Rows.view c.word-number.new.seat in
    let x = g.R.Rows.shape c.word-number.new.rows in
    let u = g.R.Rows.view c.walk.new.seat in
    let row = c.args.leaf.now.glimpse.row in
    let version = c.args.leaf.now.glimpse.version in
    let kept = kept_then y.alone v t u (kept_load y row 1 c.word-number.result v t c.word-number.ensures.step) (kept_same x y t u c.word-number.ensures.fits.1 c.walk.ensures.kept) in
    follow_pair c.in-Pair.at c.in-Pair.value c.in-Pair.ensures.locked (may_on c.requires.leaf.on.actor kept.ran c.requires.may)

pub follow-requires-clause-says : goal.follow-requires-clause-says
follow-requires-clause-says g c p s = (c.in-Pair.ensures.meets p s).0

pub follow-requires-in-Gap-clause-leaf : goal.follow-requires-in-Gap-clause-leaf
follow-requires-in-Gap-clause-leaf g c =
    let y = g.R.Rows.shape c.args.rows.now in
    let v = g.R.Rows.view c.args.seat.now in
    let t = g.R.Rows.view c.word-number.new.seat in
    let x = g.R.Rows.shape c.word-number.new.rows in
    let u = g.R.Rows.view c.walk.new.seat in
    let row = c.args.leaf.now.glimpse.row in
    let version = c.args.leaf.now.glimpse.version in
    let kept = kept_then y.alone v t u (kept_load y row 1 c.word-number.result v t c.word-number.ensures.step) (kept_same x y t u c.word-number.ensures.fits.1 c.walk.ensures.kept) in
    let z = g.R.Rows.shape c.walk.new.rows in
    let same = c.walk.ensures.fits.1 ∙ c.word-number.ensures.fits.1 in
    leaf_after z y v u c.args.worker c.args.frames c.args.key c.args.leaf.now.glimpse c.args.leaf.now.head same kept c.requires.leaf

pub follow-requires-in-Gap-clause-may : goal.follow-requires-in-Gap-clause-may
follow-requires-in-Gap-clause-may g c =
    let y = g.R.Rows.shape c.args.rows.now in
    let v = g.R.Rows.view c.args.seat.now in
    let t = g.R.Rows.view c.word-number.new.seat in
    let x = g.R.Rows.shape c.word-number.new.rows in
    let u = g.R.Rows.view c.walk.new.seat in
    let row = c.args.leaf.now.glimpse.row in
    let version = c.args.leaf.now.glimpse.version in
    let kept = kept_then y.alone v t u (kept_load y row 1 c.word-number.result v t c.word-number.ensures.step) (kept_same x y t u c.word-number.ensures.fits.1 c.walk.ensures.kept) in
    follow_none (may_on c.requires.leaf.on.actor kept.ran c.requires.may)

pub follow-requires-in-Gap-clause-says : goal.follow-requires-in-Gap-clause-says
follow-requires-in-Gap-clause-says g c p s = (c.in-Gap.ensures.meets p s).0

pub check-requires-clause-event : goal.check-requires-clause-event
check-requires-clause-event g c n =
    let y = g.R.Rows.shape c.args.rows.now in
    let v = g.R.Rows.view c.args.seat.now in
    let t = g.R.Rows.view c.word-number.new.seat in
    let x = g.R.Rows.shape c.word-number.new.rows in
    let u = g.R.Rows.view c.walk.new.seat in
    let row = c.args.leaf.now.glimpse.row in
    let version = c.args.leaf.now.glimpse.version in
    let kept = kept_then y.alone v t u (kept_load y row 1 c.word-number.result v t c.word-number.ensures.step) (kept_same x y t u c.word-number.ensures.fits.1 c.walk.ensures.kept) in
    let z = g.R.Rows.shape c.walk.new.rows in
    let same = c.walk.ensures.fits.1 ∙ c.word-number.ensures.fits.1 in
    checked_silent (may z.alone u) u.given c.args.worker version n (may_shape z y u c.args.worker same (may_ran y.alone v u [] c.args.worker kept.ran c.requires.leaf.on.actor))

pub returns-in-Ok-clause-walked : goal.returns-in-Ok-clause-walked
returns-in-Ok-clause-walked g c =
    let y = g.R.Rows.shape c.args.rows.now in
    let v = g.R.Rows.view c.args.seat.now in
    let t = g.R.Rows.view c.word-number.new.seat in
    let x = g.R.Rows.shape c.word-number.new.rows in
    let u = g.R.Rows.view c.walk.new.seat in
    let row = c.args.leaf.now.glimpse.row in
    let version = c.args.leaf.now.glimpse.version in
    let kept = kept_then y.alone v t u (kept_load y row 1 c.word-number.result v t c.word-number.ensures.step) (kept_same x y t u c.word-number.ensures.fits.1 c.walk.ensures.kept) in
    let z = g.R.Rows.shape c.walk.new.rows in
    let same = c.walk.ensures.fits.1 ∙ c.word-number.ensures.fits.1 in
    let w = g.R.Rows.view c.follow.new.seat in
    let h = c.args.leaf.now.head in
    let did = subst (λ (s : Shape). IsFollowed s.alone c.args.worker c.args.key (met.Pair c.in-Pair.at c.in-Pair.value) row version (h.packed % 256) c.word-number.result (h.packed / 65536 % 256) h.high u w) same (c.in-Ok.ensures.ok c.word-number.result (c.walk.ensures.kept.knows row version 1 c.word-number.result c.word-number.ensures.knows)) in
    walked_of (record { number = c.word-number.result; log = c.last_log.result }) c.requires.leaf.on.actor kept.ran (may_on c.requires.leaf.on.actor kept.ran c.requires.may) (λ p s. (c.in-Pair.ensures.meets p s).1) did refl c.last_log.ensures

pub returns-in-Err-clause-walked : goal.returns-in-Err-clause-walked
returns-in-Err-clause-walked g c =
    let y = g.R.Rows.shape c.args.rows.now in
    let v = g.R.Rows.view c.args.seat.now in
    let t = g.R.Rows.view c.word-number.new.seat in
    let x = g.R.Rows.shape c.word-number.new.rows in
    let u = g.R.Rows.view c.walk.new.seat in
    let row = c.args.leaf.now.glimpse.row in
    let version = c.args.leaf.now.glimpse.version in
    let kept = kept_then y.alone v t u (kept_load y row 1 c.word-number.result v t c.word-number.ensures.step) (kept_same x y t u c.word-number.ensures.fits.1 c.walk.ensures.kept) in
    let z = g.R.Rows.shape c.walk.new.rows in
    let same = c.walk.ensures.fits.1 ∙ c.word-number.ensures.fits.1 in
    let w = g.R.Rows.view c.follow.new.seat in
    ran_append y.alone v [] u (Miss c.args.worker ∷ []) w kept.ran (ran_shape z y u w (Miss c.args.worker ∷ []) same c.in-Err.ensures.err)

pub returns-in-Err-clause-cause : goal.returns-in-Err-clause-cause
returns-in-Err-clause-cause g c a f =
    let y = g.R.Rows.shape c.args.rows.now in
    let v = g.R.Rows.view c.args.seat.now in
    let t = g.R.Rows.view c.word-number.new.seat in
    let x = g.R.Rows.shape c.word-number.new.rows in
    let u = g.R.Rows.view c.walk.new.seat in
    let row = c.args.leaf.now.glimpse.row in
    let version = c.args.leaf.now.glimpse.version in
    let kept = kept_then y.alone v t u (kept_load y row 1 c.word-number.result v t c.word-number.ensures.step) (kept_same x y t u c.word-number.ensures.fits.1 c.walk.ensures.kept) in
    c.in-Err.ensures.cause a (found_after row version a v u f kept.loads)

pub returns-in-Ok-follow-clause-walked : goal.returns-in-Ok-follow-clause-walked
returns-in-Ok-follow-clause-walked g c =
    let y = g.R.Rows.shape c.args.rows.now in
    let v = g.R.Rows.view c.args.seat.now in
    let t = g.R.Rows.view c.word-number.new.seat in
    let x = g.R.Rows.shape c.word-number.new.rows in
    let u = g.R.Rows.view c.walk.new.seat in
    let row = c.args.leaf.now.glimpse.row in
    let version = c.args.leaf.now.glimpse.version in
    let kept = kept_then y.alone v t u (kept_load y row 1 c.word-number.result v t c.word-number.ensures.step) (kept_same x y t u c.word-number.ensures.fits.1 c.walk.ensures.kept) in
    let z = g.R.Rows.shape c.walk.new.rows in
    let same = c.walk.ensures.fits.1 ∙ c.word-number.ensures.fits.1 in
    let w = g.R.Rows.view c.follow-in-Gap.new.seat in
    let h = c.args.leaf.now.head in
    let did = subst (λ (s : Shape). IsFollowed s.alone c.args.worker c.args.key (met.Gap h.high) row version (h.packed % 256) c.word-number.result (h.packed / 65536 % 256) h.high u w) same (c.in-Ok-follow.ensures.ok c.word-number.result (c.walk.ensures.kept.knows row version 1 c.word-number.result c.word-number.ensures.knows)) in
    (walked_of (record { number = c.word-number.result; log = c.last_log.result }) c.requires.leaf.on.actor kept.ran (may_on c.requires.leaf.on.actor kept.ran c.requires.may) (λ p s. (c.in-Gap.ensures.meets p s).1) did refl c.last_log.ensures, did.below)

pub returns-in-Err-follow-clause-walked : goal.returns-in-Err-follow-clause-walked
returns-in-Err-follow-clause-walked g c =
    let y = g.R.Rows.shape c.args.rows.now in
    let v = g.R.Rows.view c.args.seat.now in
    let t = g.R.Rows.view c.word-number.new.seat in
    let x = g.R.Rows.shape c.word-number.new.rows in
    let u = g.R.Rows.view c.walk.new.seat in
    let row = c.args.leaf.now.glimpse.row in
    let version = c.args.leaf.now.glimpse.version in
    let kept = kept_then y.alone v t u (kept_load y row 1 c.word-number.result v t c.word-number.ensures.step) (kept_same x y t u c.word-number.ensures.fits.1 c.walk.ensures.kept) in
    let z = g.R.Rows.shape c.walk.new.rows in
    let same = c.walk.ensures.fits.1 ∙ c.word-number.ensures.fits.1 in
    let w = g.R.Rows.view c.follow-in-Gap.new.seat in
    ran_append y.alone v [] u (Miss c.args.worker ∷ []) w kept.ran (ran_shape z y u w (Miss c.args.worker ∷ []) same c.in-Err-follow.ensures.err)

pub returns-in-Err-follow-clause-cause : goal.returns-in-Err-follow-clause-cause
returns-in-Err-follow-clause-cause g c a f =
    let y = g.R.Rows.shape c.args.rows.now in
    let v = g.R.Rows.view c.args.seat.now in
    let t = g.R.Rows.view c.word-number.new.seat in
    let x = g.R.Rows.shape c.word-number.new.rows in
    let u = g.R.Rows.view c.walk.new.seat in
    let row = c.args.leaf.now.glimpse.row in
    let version = c.args.leaf.now.glimpse.version in
    let kept = kept_then y.alone v t u (kept_load y row 1 c.word-number.result v t c.word-number.ensures.step) (kept_same x y t u c.word-number.ensures.fits.1 c.walk.ensures.kept) in
    c.in-Err-follow.ensures.cause a (found_after row version a v u f kept.loads)

pub returns-in-Ok-check-clause-walked : goal.returns-in-Ok-check-clause-walked
returns-in-Ok-check-clause-walked g c =
    let y = g.R.Rows.shape c.args.rows.now in
    let v = g.R.Rows.view c.args.seat.now in
    let t = g.R.Rows.view c.word-number.new.seat in
    let x = g.R.Rows.shape c.word-number.new.rows in
    let u = g.R.Rows.view c.walk.new.seat in
    let row = c.args.leaf.now.glimpse.row in
    let version = c.args.leaf.now.glimpse.version in
    let kept = kept_then y.alone v t u (kept_load y row 1 c.word-number.result v t c.word-number.ensures.step) (kept_same x y t u c.word-number.ensures.fits.1 c.walk.ensures.kept) in
    let z = g.R.Rows.shape c.walk.new.rows in
    let same = c.walk.ensures.fits.1 ∙ c.word-number.ensures.fits.1 in
    let w = g.R.Rows.view c.check.new.seat in
    let h = c.args.leaf.now.head in
    let l = c.requires.leaf in
    let ran = looked_after z y row version (checked c.args.worker version) v u w [] same kept.ran c.in-Ok-check.ensures.ok (checked_same c.args.worker version) tt in
    let leaf = leaf_in w.given (state w) row version c.args.key h u.steps (frames_after y v w c.args.frames row ran.given l.on.sized l.on.within) (sound_after v w ran.given l.on.sound) (λ i k small kn. c.in-Ok-check.ensures.valid i k kn)
    (head_after row version h v u kept.knows l.head) l.node l.level in
    unlocked_of ran leaf c.in-Unlocked.ensures.meets

pub returns-in-Err-check-clause-walked : goal.returns-in-Err-check-clause-walked
returns-in-Err-check-clause-walked g c =
    let y = g.R.Rows.shape c.args.rows.now in
    let v = g.R.Rows.view c.args.seat.now in
    let t = g.R.Rows.view c.word-number.new.seat in
    let x = g.R.Rows.shape c.word-number.new.rows in
    let u = g.R.Rows.view c.walk.new.seat in
    let row = c.args.leaf.now.glimpse.row in
    let version = c.args.leaf.now.glimpse.version in
    let kept = kept_then y.alone v t u (kept_load y row 1 c.word-number.result v t c.word-number.ensures.step) (kept_same x y t u c.word-number.ensures.fits.1 c.walk.ensures.kept) in
    let z = g.R.Rows.shape c.walk.new.rows in
    let same = c.walk.ensures.fits.1 ∙ c.word-number.ensures.fits.1 in
    let w = g.R.Rows.view c.check.new.seat in
    let e = c.in-Err-check.ensures.err in
    looked_after z y row c.in-Err-check.moved.found (checked c.args.worker version) v u w (Miss c.args.worker ∷ []) same kept.ran e.3 (checked_other c.args.worker version c.in-Err-check.moved.found (λ q. e.2 (q ∙ sym e.1))) (may_ran y.alone v u [] c.args.worker kept.ran c.requires.leaf.on.actor, tt)

pub returns-in-Err-check-clause-cause : goal.returns-in-Err-check-clause-cause
returns-in-Err-check-clause-cause g c a f =
    let y = g.R.Rows.shape c.args.rows.now in
    let v = g.R.Rows.view c.args.seat.now in
    let t = g.R.Rows.view c.word-number.new.seat in
    let x = g.R.Rows.shape c.word-number.new.rows in
    let u = g.R.Rows.view c.walk.new.seat in
    let row = c.args.leaf.now.glimpse.row in
    let version = c.args.leaf.now.glimpse.version in
    let kept = kept_then y.alone v t u (kept_load y row 1 c.word-number.result v t c.word-number.ensures.step) (kept_same x y t u c.word-number.ensures.fits.1 c.walk.ensures.kept) in
    c.in-Err-check.ensures.cause a (found_after row version a v u f kept.loads)
