use Rattle.std.proofs.Common.{◌≡◌, ◌≤◌}
use Rattle.page_model.specs.Page as stored
use Rattle.lean_proto.specs.version_latch.Kept.{Kept}
use Rattle.btree_descent.specs.Inside.{IsSeen}
use Rattle.btree_descent.specs.Meets.{Passed}
use Rattle.btree_descent.proofs.next.walk.Given as goal

abbrev pub invariant-loop-i : goal.invariant-loop-i
invariant-loop-i g l = record {
  fits : g.R.Rows.fits l.rows l.seat × (g.R.Rows.shape l.rows ≡ g.R.Rows.shape l.fn.rows);
  kept : Kept (g.R.Rows.shape l.fn.rows).alone (g.R.Rows.view l.fn.seat) (g.R.Rows.view l.seat);
  reach : l.i ≤ l.count;
  passed : (p : stored.Page) → IsSeen l.glimpse.row l.glimpse.version l.count (g.R.Rows.view l.seat).steps p → Passed (g.H.Locked.locked l.locks) l.key l.i p;
}
