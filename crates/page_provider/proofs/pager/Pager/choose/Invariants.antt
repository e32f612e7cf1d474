use Rattle.std.proofs.Common.{◌≡◌}
use Rattle.page_provider.proofs.Judging.{Walked}
use Rattle.page_provider.proofs.pager.Pager.choose.Given as goal

abbrev pub invariant-loop-place : goal.invariant-loop-place
invariant-loop-place g l = record {
  fits : g.R.Rows.fits l.rows l.seat × (g.R.Rows.shape l.rows ≡ g.R.Rows.shape l.fn.rows);
  walked : Walked (g.R.Rows.shape l.fn.rows) (g.R.Rows.view l.fn.seat) l.fn.self l._place l.next l.held (g.R.Rows.view l.seat);
}
