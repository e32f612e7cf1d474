use Rattle.std.proofs.Common.{◌≡◌}
use Rattle.page_provider.proofs.Emptying.{IsSharing}
use Rattle.page_provider.proofs.pager.Pager.chill_some.Given as goal

abbrev pub invariant-loop-turn : goal.invariant-loop-turn
invariant-loop-turn g l = record {
  fits : g.R.Rows.fits l.rows l.seat × (g.R.Rows.shape l.rows ≡ g.R.Rows.shape l.fn.rows);
  sharing : IsSharing (g.R.Rows.shape l.fn.rows) l.fn.path (g.R.Rows.view l.fn.seat) l.fn.self l.wanted l._turn (g.R.Rows.view l.seat) l.self;
}
