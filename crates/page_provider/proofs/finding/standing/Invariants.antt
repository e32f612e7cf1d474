use Rattle.std.proofs.Common.{◌≡◌}
use Rattle.page_provider.proofs.Sightings.{Passed}
use Rattle.page_provider.proofs.finding.standing.Given as goal

abbrev pub invariant-loop-frame : goal.invariant-loop-frame
invariant-loop-frame g l = record {
  fits : g.R.Rows.fits l.rows l.seat × (g.R.Rows.shape l.rows ≡ g.R.Rows.shape l.fn.rows) × ((g.R.Rows.view l.seat).held ≡ (g.R.Rows.view l.fn.seat).held);
  passed : Passed (g.R.Rows.shape l.fn.rows) (g.R.Rows.view l.fn.seat) l.fn.page l.frame (g.R.Rows.view l.seat);
}
