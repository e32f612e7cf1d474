use Rattle.std.proofs.Common.{◌≡◌}
use Rattle.row_ends.specs.Ends.{Missing}
use Rattle.row_ends.proofs.latching.unlatch_rows.Given as goal

abbrev pub invariant-loop-at : goal.invariant-loop-at
invariant-loop-at g l = record {
  fits : g.R.Rows.fits l.rows l.seat × (g.R.Rows.shape l.rows ≡ g.R.Rows.shape l.fn.rows);
  missing : Missing l.frames l.held l.at l.latches (g.R.Rows.view l.fn.seat) (g.R.Rows.view l.seat);
}
