use Rattle.std.proofs.Common.{◌≡◌, length}
use Rattle.row_image.specs.Inside.{Watched, AreNamed}
use Rattle.row_image.proofs.children.name_pairs.Given as goal

abbrev pub invariant-loop-i : goal.invariant-loop-i
invariant-loop-i g l = record {
  fits : g.R.Rows.fits l.rows l.seat × (g.R.Rows.shape l.rows ≡ g.R.Rows.shape l.fn.rows) × ((g.R.Rows.view l.seat).held ≡ (g.R.Rows.view l.fn.seat).held);
  size : length l.words ≡ 126;
  watched : Watched (g.R.Rows.shape l.fn.rows).alone (g.R.Rows.view l.fn.seat) (g.R.Rows.view l.seat);
  named : AreNamed (g.R.Rows.shape l.fn.rows).alone l.frames l.i (g.R.Rows.view l.fn.seat) l.fn.words l.words (g.R.Rows.view l.seat);
}
