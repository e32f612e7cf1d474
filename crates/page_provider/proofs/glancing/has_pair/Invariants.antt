use Rattle.std.proofs.Common.{◌≡◌}
use Rattle.btree_descent.specs.rows_trait.Views.{Knows}
use Rattle.row_image.specs.Looks.{Watched}
use Rattle.page_provider.proofs.Peeks.{NoneBefore}
use Rattle.page_provider.proofs.glancing.has_pair.Given as goal

abbrev pub invariant-loop-i : goal.invariant-loop-i
invariant-loop-i g l = record {
  fits : g.R.Rows.fits l.rows l.seat × (g.R.Rows.shape l.rows ≡ g.R.Rows.shape l.fn.rows);
  watched : Watched (g.R.Rows.shape l.fn.rows).alone (g.R.Rows.view l.fn.seat) (g.R.Rows.view l.seat);
  head : Knows l.fn.glimpse.row l.fn.glimpse.version 3 l.packed (g.R.Rows.view l.seat).steps;
  none : NoneBefore l.fn.glimpse.row l.fn.glimpse.version l.fn.word l.i (g.R.Rows.view l.seat).steps;
}
