use Rattle.std.proofs.Common.{◌*◌, ◌+◌, ◌%◌, ◌∙◌, arith, refl}
use Rattle.row_changes.proofs.session_state.btree_descent.Keeping.{seen_before, seen_word}
use Rattle.row_changes.proofs.session_state.btree_descent.version_latch.Keeping.{kept_load, kept_more, kept_none}
use Rattle.row_walks.proofs.ValueLemmas.{values_more, values_same}
use Rattle.row_walks.proofs.at_once.has_many.Goals.{then-word-lt-TOMBSTONE+else-values-gt-THIN, else-word-lt-TOMBSTONE}
use Rattle.row_walks.proofs.at_once.has_many.Goals as goal

pub loop-at-init : goal.loop-at-init
loop-at-init g c = record {
  fits = (c.requires.fits, refl);
  kept = kept_none (g.R.Rows.shape c.args.rows.now).alone (g.R.Rows.view c.args.seat.now);
  few = omega arith;
  seen = λ p s. refl;
}

pub word-requires-clause-seen : goal.word-requires-clause-seen
word-requires-clause-seen g c = c.loop-at.invariant.kept.has c.args.spot.now.leaf.glimpse.row c.args.spot.now.leaf.glimpse.version c.requires.seen

pub returns-then-values-gt-THIN-clause-kept : goal.returns-then-values-gt-THIN-clause-kept
returns-then-values-gt-THIN-clause-kept g c =
    let inv = c.loop-at.invariant in
    kept_more (g.R.Rows.shape c.loop-at.rows) (g.R.Rows.shape c.args.rows.now) c.args.spot.now.leaf.glimpse.row (7 + 2 * c.loop-at.at) c.word.result (g.R.Rows.view c.args.seat.now) (g.R.Rows.view c.loop-at.seat) (g.R.Rows.view c.word.new.seat) inv.fits.1 inv.kept c.word.ensures.step

pub returns-then-values-gt-THIN-clause-many : goal.returns-then-values-gt-THIN-clause-many
returns-then-values-gt-THIN-clause-many g c _ p s =
    let row = c.args.spot.now.leaf.glimpse.row in
    let version = c.args.spot.now.leaf.glimpse.version in
    let count = c.args.spot.now.leaf.head.packed % 256 in
    let at = c.loop-at.at in
    let v = g.R.Rows.view c.loop-at.seat in
    let w = g.R.Rows.view c.word.new.seat in
    let one = kept_load (g.R.Rows.shape c.loop-at.rows) row (7 + 2 * at) c.word.result v w c.word.ensures.step in
    let before = c.loop-at.invariant.seen p (seen_before (g.R.Rows.shape c.loop-at.rows).alone row version count v w p one s) in
    let is = seen_word row version count at c.word.result w.steps p s c.requires.count c.loop-at-test.true c.word.ensures.knows in
    let size = s.size in
    let low = c.if-word-lt-TOMBSTONE.true in
    let inside = c.loop-at-test.true in
    let more = values_more p.node.pairs at (omega arith) (omega arith) in
    (at + 1, (let many = c.if-values-gt-THIN.true in omega arith))

pub loop-at-preserved : goal.loop-at-preserved
loop-at-preserved g c =
    let row = c.args.spot.now.leaf.glimpse.row in
    let version = c.args.spot.now.leaf.glimpse.version in
    let count = c.args.spot.now.leaf.head.packed % 256 in
    let at = c.loop-at.at in
    let inv = c.loop-at.invariant in
    let v = g.R.Rows.view c.loop-at.seat in
    let w = g.R.Rows.view c.word.new.seat in
    let one = kept_load (g.R.Rows.shape c.loop-at.rows) row (7 + 2 * at) c.word.result v w c.word.ensures.step in record {
      fits = (c.word.ensures.fits.0, c.word.ensures.fits.1 ∙ inv.fits.1);
      kept = kept_more (g.R.Rows.shape c.loop-at.rows) (g.R.Rows.shape c.args.rows.now) row (7 + 2 * at) c.word.result (g.R.Rows.view c.args.seat.now) v w inv.fits.1 inv.kept c.word.ensures.step;
      few = elim c.if-word-lt-TOMBSTONE.branch [
        | then-word-lt-TOMBSTONE+else-values-gt-THIN b ↦ (let few = b.if-values-gt-THIN.false in let e = b.values-is in omega arith)
        | else-word-lt-TOMBSTONE b ↦ (let few = inv.few in let e = b.values-is in omega arith)
      ];
      seen = λ p s.
          let before = inv.seen p (seen_before (g.R.Rows.shape c.loop-at.rows).alone row version count v w p one s) in
          let is = seen_word row version count at c.word.result w.steps p s c.requires.count c.loop-at-test.true c.word.ensures.knows in
          let size = s.size in
          let inside = c.loop-at-test.true in
          elim c.if-word-lt-TOMBSTONE.branch [
            | then-word-lt-TOMBSTONE+else-values-gt-THIN b ↦ (let low = b.if-word-lt-TOMBSTONE.true in let more = values_more p.node.pairs at (omega arith) (omega arith) in let e = b.values-is in omega arith)
            | else-word-lt-TOMBSTONE b ↦ (let same = values_same p.node.pairs at (omega arith) (λ low. let high = b.if-word-lt-TOMBSTONE.false in omega arith) in let e = b.values-is in omega arith)
          ];
    }
