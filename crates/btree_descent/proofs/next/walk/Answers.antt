use Rattle.std.proofs.Common.{◌<◌, ◌+◌, ◌*◌, ◌∙◌, sym, subst, true≢false, arith}
use Rattle.lean_proto.specs.rows_trait.Layout.{rows_of, width}
use Rattle.lean_proto.specs.rows_trait.Views.{Shape}
use Rattle.lean_proto.proofs.version_latch.Keeping.{kept_load, kept_more}
use Rattle.btree_descent.proofs.Keeping.{seen_before}
use Rattle.btree_descent.proofs.Walking.{passed_none, walk_free, walk_dead, walk_live, walk_end}
use Rattle.btree_descent.proofs.next.walk.Goals as goal

pub loop-i-init : goal.loop-i-init
loop-i-init g c = record {
  fits = c.place-from.ensures.fits;
  kept = c.place-from.ensures.kept;
  reach = c.place-from.ensures.within;
  passed = λ p s. passed_none (g.H.Locked.locked c.args.locks.now) c.args.key c.place-from.result p (c.place-from.ensures.place p s);
}

pub word-at-requires-clause-fits : goal.word-at-requires-clause-fits
word-at-requires-clause-fits g c = c.loop-i.invariant.fits.0

pub word-at-requires-clause-place : goal.word-at-requires-clause-place
word-at-requires-clause-place g c =
    subst (λ (y : Shape). (c.args.glimpse.now.row < rows_of y.sizes) × (6 + 2 * c.loop-i.i < width y.sizes c.args.glimpse.now.row)) (sym c.loop-i.invariant.fits.1)
    (c.requires.row.0, (let w = c.requires.row.1 in let lt = c.loop-i-test.true in let n = c.requires.count in omega arith))

pub word-at-requires-clause-seen : goal.word-at-requires-clause-seen
word-at-requires-clause-seen g c = c.loop-i.invariant.kept.has c.args.glimpse.now.row c.args.glimpse.now.version c.requires.seen

pub word-word-requires-clause-place : goal.word-word-requires-clause-place
word-word-requires-clause-place g c =
    subst (λ (y : Shape). (c.args.glimpse.now.row < rows_of y.sizes) × (7 + 2 * c.loop-i.i < width y.sizes c.args.glimpse.now.row)) (sym (c.word-at.ensures.fits.1 ∙ c.loop-i.invariant.fits.1))
    (c.requires.row.0, (let w = c.requires.row.1 in let lt = c.loop-i-test.true in let n = c.requires.count in omega arith))

pub word-word-requires-clause-seen : goal.word-word-requires-clause-seen
word-word-requires-clause-seen g c =
    let row = c.args.glimpse.now.row in
    let version = c.args.glimpse.now.version in
    let one = kept_load (g.R.Rows.shape c.loop-i.rows) row (6 + 2 * c.loop-i.i) c.word-at.result (g.R.Rows.view c.loop-i.seat) (g.R.Rows.view c.word-at.new.seat) c.word-at.ensures.step in
    one.has row version (c.loop-i.invariant.kept.has row version c.requires.seen)

pub returns-then-not-has-clause-fits : goal.returns-then-not-has-clause-fits
returns-then-not-has-clause-fits g c = (c.word-at.ensures.fits.0, c.word-at.ensures.fits.1 ∙ c.loop-i.invariant.fits.1)

pub returns-then-not-has-clause-kept : goal.returns-then-not-has-clause-kept
returns-then-not-has-clause-kept g c =
    let z = g.R.Rows.shape c.args.rows.now in
    let v = g.R.Rows.view c.args.seat.now in
    let inv = c.loop-i.invariant in
    kept_more (g.R.Rows.shape c.loop-i.rows) z c.args.glimpse.now.row (6 + 2 * c.loop-i.i) c.word-at.result v (g.R.Rows.view c.loop-i.seat) (g.R.Rows.view c.word-at.new.seat) inv.fits.1 inv.kept c.word-at.ensures.step

pub returns-then-not-has-clause-meets : goal.returns-then-not-has-clause-meets
returns-then-not-has-clause-meets g c p s =
    let row = c.args.glimpse.now.row in
    let version = c.args.glimpse.now.version in
    let u = g.R.Rows.view c.loop-i.seat in
    let u1 = g.R.Rows.view c.word-at.new.seat in
    let one = kept_load (g.R.Rows.shape c.loop-i.rows) row (6 + 2 * c.loop-i.i) c.word-at.result u u1 c.word-at.ensures.step in
    let s0 = seen_before (g.R.Rows.shape c.loop-i.rows).alone row version c.args.count u u1 p one s in
    walk_free (g.H.Locked.locked c.args.locks.now) row version c.args.count c.loop-i.i c.args.key c.word-at.result u1.steps p s c.requires.count c.loop-i-test.true c.word-at.ensures.knows (c.loop-i.invariant.passed p s0)
    (λ l. true≢false (sym (c.has.ensures.1 l) ∙ c.if-not-has.true))

pub returns-then-word-lt-TOMBSTONE-clause-fits : goal.returns-then-word-lt-TOMBSTONE-clause-fits
returns-then-word-lt-TOMBSTONE-clause-fits g c = (c.word-word.ensures.fits.0, c.word-word.ensures.fits.1 ∙ (c.word-at.ensures.fits.1 ∙ c.loop-i.invariant.fits.1))

pub returns-then-word-lt-TOMBSTONE-clause-kept : goal.returns-then-word-lt-TOMBSTONE-clause-kept
returns-then-word-lt-TOMBSTONE-clause-kept g c =
    let z = g.R.Rows.shape c.args.rows.now in
    let v = g.R.Rows.view c.args.seat.now in
    let inv = c.loop-i.invariant in
    let a = kept_more (g.R.Rows.shape c.loop-i.rows) z c.args.glimpse.now.row (6 + 2 * c.loop-i.i) c.word-at.result v (g.R.Rows.view c.loop-i.seat) (g.R.Rows.view c.word-at.new.seat) inv.fits.1 inv.kept c.word-at.ensures.step in
    kept_more (g.R.Rows.shape c.word-at.new.rows) z c.args.glimpse.now.row (7 + 2 * c.loop-i.i) c.word-word.result v (g.R.Rows.view c.word-at.new.seat) (g.R.Rows.view c.word-word.new.seat) (c.word-at.ensures.fits.1 ∙ inv.fits.1) a c.word-word.ensures.step

pub returns-then-word-lt-TOMBSTONE-clause-meets : goal.returns-then-word-lt-TOMBSTONE-clause-meets
returns-then-word-lt-TOMBSTONE-clause-meets g c p s =
    let row = c.args.glimpse.now.row in
    let version = c.args.glimpse.now.version in
    let u = g.R.Rows.view c.loop-i.seat in
    let u1 = g.R.Rows.view c.word-at.new.seat in
    let u2 = g.R.Rows.view c.word-word.new.seat in
    let one = kept_load (g.R.Rows.shape c.loop-i.rows) row (6 + 2 * c.loop-i.i) c.word-at.result u u1 c.word-at.ensures.step in
    let two = kept_load (g.R.Rows.shape c.word-at.new.rows) row (7 + 2 * c.loop-i.i) c.word-word.result u1 u2 c.word-word.ensures.step in
    let s1 = seen_before (g.R.Rows.shape c.word-at.new.rows).alone row version c.args.count u1 u2 p two s in
    let s0 = seen_before (g.R.Rows.shape c.loop-i.rows).alone row version c.args.count u u1 p one s1 in
    let k = two.knows row version (6 + 2 * c.loop-i.i) c.word-at.result c.word-at.ensures.knows in
    walk_live (g.H.Locked.locked c.args.locks.now) row version c.args.count c.loop-i.i c.args.key c.word-at.result u2.steps p s c.requires.count c.loop-i-test.true k (c.loop-i.invariant.passed p s0) c.word-word.result c.word-word.ensures.knows (c.has.ensures.0 c.if-not-has.false) c.if-word-lt-TOMBSTONE.true

pub returns-then-word-lt-TOMBSTONE-clause-locked : goal.returns-then-word-lt-TOMBSTONE-clause-locked
returns-then-word-lt-TOMBSTONE-clause-locked g c = c.has.ensures.0 c.if-not-has.false

pub loop-i-preserved : goal.loop-i-preserved
loop-i-preserved g c =
    let row = c.args.glimpse.now.row in
    let version = c.args.glimpse.now.version in
    let z = g.R.Rows.shape c.args.rows.now in
    let v = g.R.Rows.view c.args.seat.now in
    let inv = c.loop-i.invariant in
    let u = g.R.Rows.view c.loop-i.seat in
    let u1 = g.R.Rows.view c.word-at.new.seat in
    let u2 = g.R.Rows.view c.word-word.new.seat in
    let one = kept_load (g.R.Rows.shape c.loop-i.rows) row (6 + 2 * c.loop-i.i) c.word-at.result u u1 c.word-at.ensures.step in
    let two = kept_load (g.R.Rows.shape c.word-at.new.rows) row (7 + 2 * c.loop-i.i) c.word-word.result u1 u2 c.word-word.ensures.step in
    let a = kept_more (g.R.Rows.shape c.loop-i.rows) z row (6 + 2 * c.loop-i.i) c.word-at.result v u u1 inv.fits.1 inv.kept c.word-at.ensures.step in record {
      fits = (c.word-word.ensures.fits.0, c.word-word.ensures.fits.1 ∙ (c.word-at.ensures.fits.1 ∙ inv.fits.1));
      kept = kept_more (g.R.Rows.shape c.word-at.new.rows) z row (7 + 2 * c.loop-i.i) c.word-word.result v u1 u2 (c.word-at.ensures.fits.1 ∙ inv.fits.1) a c.word-word.ensures.step;
      reach = (let lt = c.loop-i-test.true in omega arith);
      passed = λ p s.
          let s1 = seen_before (g.R.Rows.shape c.word-at.new.rows).alone row version c.args.count u1 u2 p two s in
          let s0 = seen_before (g.R.Rows.shape c.loop-i.rows).alone row version c.args.count u u1 p one s1 in
          let k = two.knows row version (6 + 2 * c.loop-i.i) c.word-at.result c.word-at.ensures.knows in
          walk_dead (g.H.Locked.locked c.args.locks.now) row version c.args.count c.loop-i.i c.args.key c.word-at.result u2.steps p s c.requires.count c.loop-i-test.true k (inv.passed p s0) c.word-word.result c.word-word.ensures.knows (c.has.ensures.0 c.if-not-has.false) (let h = c.if-word-lt-TOMBSTONE.false in omega arith);
    }

pub returns-clause-fits : goal.returns-clause-fits
returns-clause-fits g c = c.loop-i.invariant.fits

pub returns-clause-kept : goal.returns-clause-kept
returns-clause-kept g c = c.loop-i.invariant.kept

pub returns-clause-meets : goal.returns-clause-meets
returns-clause-meets g c p s =
    walk_end (g.H.Locked.locked c.args.locks.now) c.args.key c.loop-i.i p (c.loop-i.invariant.passed p s) (let e = s.size in let r = c.loop-i.invariant.reach in let t = c.loop-i-test.false in omega arith)
