use Rattle.std.proofs.Common.{◌∙◌, refl, arith}
use Rattle.rows_trait.specs.Views.{held_at}
use Rattle.held_rows.specs.Waits.{wrote_none, wrote_as, wrote_more}
use Rattle.held_rows.proofs.Storing.{stored_as, wrote_one, over_more}
use Rattle.held_rows.proofs.words.store.Goals as goal

pub loop-i-init : goal.loop-i-init
loop-i-init g c = record {
  fits = (c.requires.fits, refl, refl);
  wrote = wrote_none (g.R.Rows.shape c.args.rows.now).alone (g.R.Rows.view c.args.seat.now) c.args.hold.now.row;
}

pub loop-i-preserved : goal.loop-i-preserved
loop-i-preserved g c =
    let y = g.R.Rows.shape c.args.rows.now in
    let v = g.R.Rows.view c.args.seat.now in
    let row = c.args.hold.now.row in
    let inv = c.loop-i.invariant in
    let i = c.loop-i.i in
    let words = c.words-words.result.now in
    let now = (held_at v.held row).now in
    let s = stored_as inv.fits.1 inv.fits.2 c.set.ensures.step in record {
      fits = (c.set.ensures.fits.0, c.set.ensures.fits.1 ∙ inv.fits.1, c.set.ensures.fits.2 ∙ inv.fits.2);
      wrote = wrote_as {z = y} refl refl (over_more words now i (let n = c.words-words.ensures.long in omega arith) (let n = c.requires.size in omega arith)) (wrote_more i _ inv.wrote (wrote_one (inv.wrote.waited.rows row ∙ c.requires.held.0) s));
    }
