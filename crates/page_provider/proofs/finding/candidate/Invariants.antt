use Rattle.std.proofs.Common.{◌≡◌}
use Rattle.page_provider.proofs.Sightings.{Descended}
use Rattle.page_provider.proofs.finding.candidate.Given as goal

abbrev pub invariant-loop : goal.invariant-loop
invariant-loop g l = record {
  fits : g.R.Rows.fits l.rows l.seat × (g.R.Rows.shape l.rows ≡ g.R.Rows.shape l.fn.rows) × ((g.R.Rows.view l.seat).held ≡ (g.R.Rows.view l.fn.seat).held);
  way : Descended (g.R.Rows.shape l.fn.rows) (g.R.Rows.view l.fn.seat) l.fn.frame l.fn.frames l.at l.counter (g.R.Rows.view l.seat);
}
