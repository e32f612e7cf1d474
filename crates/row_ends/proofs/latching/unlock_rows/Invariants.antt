use Rattle.std.proofs.Common.{◌≡◌}
use Rattle.row_ends.specs.Ends.{Giving}
use Rattle.row_ends.proofs.latching.unlock_rows.Given as goal

abbrev pub invariant-loop-at : goal.invariant-loop-at
invariant-loop-at g l = record {
  fits : g.R.Rows.fits l.rows l.seat × (g.R.Rows.shape l.rows ≡ g.R.Rows.shape l.fn.rows);
  giving : Giving l.fn.session.own l.fn.session.frames l.fn.session.held l.at l.latches (g.R.Rows.view l.fn.seat) (g.R.Rows.view l.seat);
}
