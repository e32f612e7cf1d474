use Rattle.std.proofs.Common.{◌≡◌, ◌≤◌}
use Rattle.btree_smo.specs.Inside.Purging.{Passing}
use Rattle.btree_smo.proofs.gather.gather.Given as goal

abbrev pub invariant-loop-i : goal.invariant-loop-i
invariant-loop-i g l = record {
  fits : g.R.Rows.fits l.rows l.seat × (g.R.Rows.shape l.rows ≡ g.R.Rows.shape l.fn.rows);
  reach : l.i ≤ l.i-end;
  passing : Passing (g.R.Rows.shape l.fn.rows) l.fn.frames l.fn.floor l.fn.locks l.leaf.row l.node.node.pairs l.i l.places l.keys (g.R.Rows.view l.fn.seat) (g.R.Rows.view l.seat);
}
