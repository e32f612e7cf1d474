use Rattle.std.proofs.Common.{◌≡◌}
use Rattle.page_provider.proofs.Hands.{Passed}
use Rattle.page_provider.proofs.pager.Pager.pass.Given as goal

abbrev pub invariant-loop-frame : goal.invariant-loop-frame
invariant-loop-frame g l = record {
  fits : g.R.Rows.fits l.rows l.seat;
  shape : g.R.Rows.shape l.rows ≡ g.R.Rows.shape l.fn.rows;
  passed : Passed (g.R.Rows.shape l.fn.rows) l.path l.from l.frame (g.R.Rows.view l.fn.seat) l.fn.self (g.R.Rows.view l.seat) l.self;
}
