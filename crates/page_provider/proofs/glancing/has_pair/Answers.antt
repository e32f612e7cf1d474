use Rattle.std.proofs.Common.{◌∙◌, arith}
use Rattle.row_image.proofs.Watching.{watched_load, watched_shape, watched_then}
use Rattle.page_provider.proofs.Peeks.{none_at_all, none_next, pair_here}
use Rattle.page_provider.proofs.glancing.has_pair.Goals as goal

pub loop-i-init : goal.loop-i-init
loop-i-init g c = record {
  fits = (c.word-packed.ensures.fits.0, c.word-packed.ensures.fits.1);
  watched = watched_load c.word-packed.ensures.step;
  head = c.word-packed.ensures.knows;
  none = λ n f a inner j lt. absurd (omega arith);
}

pub word-requires-clause-seen : goal.word-requires-clause-seen
word-requires-clause-seen g c = c.loop-i.invariant.watched.has c.args.glimpse.now.row c.args.glimpse.now.version c.requires.seen

pub returns-then-word-clause-watched : goal.returns-then-word-clause-watched
returns-then-word-clause-watched g c = let inv = c.loop-i.invariant in watched_then inv.watched (watched_shape inv.fits.1 (watched_load c.word.ensures.step))

pub returns-then-word-clause-pair : goal.returns-then-word-clause-pair
returns-then-word-clause-pair g c =
    let inv = c.loop-i.invariant in
    let row = c.args.glimpse.now.row in
    let version = c.args.glimpse.now.version in
    let one = watched_load c.word.ensures.step in
    let lt = c.loop-i-test.true in
    pair_here row version c.args.word c.word-packed.result c.naming_pairs-count.result c.loop-i.i c.word.result (c.naming_pairs-count.ensures.some (omega arith)) lt (one.knows row version 3 c.word-packed.result inv.head) one inv.none c.word.ensures.knows c.if-word.true

pub loop-i-preserved : goal.loop-i-preserved
loop-i-preserved g c =
    let inv = c.loop-i.invariant in
    let row = c.args.glimpse.now.row in
    let version = c.args.glimpse.now.version in
    let one = watched_load c.word.ensures.step in
    let head = one.knows row version 3 c.word-packed.result inv.head in record {
      fits = (c.word.ensures.fits.0, c.word.ensures.fits.1 ∙ inv.fits.1);
      watched = watched_then inv.watched (watched_shape inv.fits.1 one);
      head = head;
      none = none_next row version c.args.word c.word-packed.result c.naming_pairs-count.result c.loop-i.i c.word.result c.naming_pairs-count.ensures.inner c.loop-i-test.true head one inv.none c.word.ensures.knows c.if-word.false;
    }

pub returns-clause-pair : goal.returns-clause-pair
returns-clause-pair g c =
    let inv = c.loop-i.invariant in
    let all = c.loop-i-test.false in
    none_at_all c.args.glimpse.now.row c.args.glimpse.now.version c.args.word c.word-packed.result c.naming_pairs-count.result c.loop-i.i (g.R.Rows.view c.loop-i.seat).steps c.naming_pairs-count.ensures.inner (omega arith) inv.head inv.none
