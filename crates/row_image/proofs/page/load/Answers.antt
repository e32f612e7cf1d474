use Rattle.std.proofs.Common.{◌∙◌, length-set, refl, arith}
use Rattle.row_image.proofs.Watching.{watched_none, watched_load, watched_then, watched_shape, known_more}
use Rattle.row_image.proofs.page.load.Goals as goal

pub loop-i-init : goal.loop-i-init
loop-i-init g c = record {
  fits = (c.requires.fits, refl);
  size = c.told-into;
  watched = watched_none (g.R.Rows.shape c.args.rows.now).alone (g.R.Rows.view c.args.seat.now);
  words = λ i lt. absurd (omega arith);
}

pub word-requires-clause-seen : goal.word-requires-clause-seen
word-requires-clause-seen g c = c.loop-i.invariant.watched.has c.args.glimpse.now.row c.args.glimpse.now.version c.requires.seen

pub loop-i-preserved : goal.loop-i-preserved
loop-i-preserved g c =
    let y = g.R.Rows.shape c.args.rows.now in
    let z = g.R.Rows.shape c.loop-i.rows in
    let v = g.R.Rows.view c.args.seat.now in
    let u = g.R.Rows.view c.loop-i.seat in
    let w = g.R.Rows.view c.word.new.seat in
    let row = c.args.glimpse.now.row in
    let version = c.args.glimpse.now.version in
    let inv = c.loop-i.invariant in
    let i = c.loop-i.i in
    let one = watched_load c.word.ensures.step in record {
      fits = (c.word.ensures.fits.0, c.word.ensures.fits.1 ∙ inv.fits.1);
      size = length-set c.loop-i.into i c.word.result ∙ inv.size;
      watched = watched_then inv.watched (watched_shape inv.fits.1 one);
      words = known_more row version i c.word.result c.loop-i.into u.steps w.steps (let n = inv.size in omega arith) (λ j x k. one.knows row version j x k) inv.words c.word.ensures.knows;
    }
