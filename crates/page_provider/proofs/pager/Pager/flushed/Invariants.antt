use Rattle.std.proofs.Common.{◌≡◌}
use Rattle.page_provider.proofs.Flushing.{IsLow}
use Rattle.page_provider.proofs.pager.Pager.flushed.Given as goal

abbrev pub invariant-loop-worker : goal.invariant-loop-worker
invariant-loop-worker g l = record {
  fits : g.R.Rows.fits l.rows l.seat × (g.R.Rows.shape l.rows ≡ g.R.Rows.shape l.fn.rows);
  low : IsLow (g.R.Rows.shape l.fn.rows) (g.R.Rows.view l.fn.seat) l.worker l.least (g.R.Rows.view l.seat);
}
