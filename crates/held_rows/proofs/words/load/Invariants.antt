use Rattle.std.proofs.Common.{◌≡◌, ◌<◌, ℕ, length}
use Rattle.std.specs.Prelude.{slice_index}
use Rattle.rows_trait.specs.Views.{held_at}
use Rattle.held_rows.specs.Rows.{Stood}
use Rattle.held_rows.proofs.words.load.Given as goal

abbrev pub invariant-loop-i : goal.invariant-loop-i
invariant-loop-i g l = record {
  fits : g.R.Rows.fits l.rows l.seat × (g.R.Rows.shape l.rows ≡ g.R.Rows.shape l.fn.rows);
  size : length l.into ≡ 126;
  stood : Stood (g.R.Rows.shape l.fn.rows).alone (g.R.Rows.view l.fn.seat) (g.R.Rows.view l.seat);
  words : (i : ℕ) → i < l.i → slice_index l.into i ≡ slice_index (held_at (g.R.Rows.view l.fn.seat).held l.fn.hold.row).was i;
}
