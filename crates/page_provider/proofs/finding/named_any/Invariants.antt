use Rattle.std.proofs.Common.{◌≡◌}
use Rattle.page_provider.proofs.Sightings.{Unnamed}
use Rattle.page_provider.proofs.finding.named_any.Given as goal

abbrev pub invariant-loop-frame : goal.invariant-loop-frame
invariant-loop-frame g l = record {
  fits : g.R.Rows.fits l.rows l.seat × (g.R.Rows.shape l.rows ≡ g.R.Rows.shape l.fn.rows) × ((g.R.Rows.view l.seat).held ≡ (g.R.Rows.view l.fn.seat).held);
  unnamed : Unnamed (g.R.Rows.shape l.fn.rows) (g.R.Rows.view l.fn.seat) l.fn.word l.frame (g.R.Rows.view l.seat);
}
