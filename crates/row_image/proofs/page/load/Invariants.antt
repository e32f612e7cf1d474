use Rattle.std.proofs.Common.{◌≡◌, length}
use Rattle.row_image.specs.Inside.{Watched, AreKnown}
use Rattle.row_image.proofs.page.load.Given as goal

abbrev pub invariant-loop-i : goal.invariant-loop-i
invariant-loop-i g l = record {
  fits : g.R.Rows.fits l.rows l.seat × (g.R.Rows.shape l.rows ≡ g.R.Rows.shape l.fn.rows);
  size : length l.into ≡ 126;
  watched : Watched (g.R.Rows.shape l.fn.rows).alone (g.R.Rows.view l.fn.seat) (g.R.Rows.view l.seat);
  words : AreKnown l.fn.glimpse.row l.fn.glimpse.version l.i l.into (g.R.Rows.view l.seat).steps;
}
