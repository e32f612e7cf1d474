use Rattle.std.proofs.Common.{◌≡◌, ◌≤◌, ◌%◌}
use Rattle.page_model.specs.Page as stored
use Rattle.row_changes.specs.session_state.btree_descent.version_latch.Kept.{Kept}
use Rattle.row_changes.specs.session_state.btree_descent.Inside.{IsSeen}
use Rattle.row_walks.specs.Inside.Values.{values_of}
use Rattle.row_walks.proofs.at_once.has_many.Given as goal

abbrev pub invariant-loop-at : goal.invariant-loop-at
invariant-loop-at g l = record {
  fits : g.R.Rows.fits l.rows l.seat × (g.R.Rows.shape l.rows ≡ g.R.Rows.shape l.fn.rows);
  kept : Kept (g.R.Rows.shape l.fn.rows).alone (g.R.Rows.view l.fn.seat) (g.R.Rows.view l.seat);
  few : l.values ≤ 15;
  seen : (p : stored.Page) → IsSeen l.fn.spot.leaf.glimpse.row l.fn.spot.leaf.glimpse.version (l.fn.spot.leaf.head.packed % 256) (g.R.Rows.view l.seat).steps p → l.values ≡ values_of l.at p.node.pairs;
}
