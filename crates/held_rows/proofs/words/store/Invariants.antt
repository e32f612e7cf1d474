use Rattle.std.proofs.Common.{◌≡◌, ◌++◌, take, drop}
use Rattle.rows_trait.specs.Views.{held_at}
use Rattle.held_rows.specs.Rows.{Wrote}
use Rattle.held_rows.proofs.words.store.Given as goal

abbrev pub invariant-loop-i : goal.invariant-loop-i
invariant-loop-i g l = record {
  fits : g.R.Rows.fits l.rows l.seat × (g.R.Rows.shape l.rows ≡ g.R.Rows.shape l.fn.rows) × (l.hold.row ≡ l.fn.hold.row);
  wrote : Wrote (g.R.Rows.shape l.fn.rows).alone l.fn.hold.row (take l.i l.words ++ drop l.i (held_at (g.R.Rows.view l.fn.seat).held l.fn.hold.row).now) (g.R.Rows.view l.fn.seat) (g.R.Rows.view l.seat);
}
