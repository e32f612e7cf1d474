use Rattle.std.proofs.Common.{◌≡◌, ◌≤◌, drop}
use Rattle.btree_smo.specs.Outcomes.{MissedUpTo}
use Rattle.btree_smo.specs.Inside.Purging.{KeepsPlaces}
use Rattle.btree_smo.proofs.release.release_places.Given as goal

abbrev pub invariant-loop-i : goal.invariant-loop-i
invariant-loop-i g l = record {
  fits : g.R.Rows.fits l.rows l.seat × (g.R.Rows.shape l.rows ≡ g.R.Rows.shape l.fn.rows);
  reach : l.i ≤ l.i-end;
  keeps : KeepsPlaces (g.R.Rows.shape l.fn.rows) (g.R.Rows.view l.seat) l.frames (drop l.i l.places);
  missed : MissedUpTo l.i (g.R.Rows.shape l.fn.rows).alone (g.R.Rows.view l.fn.seat) (g.R.Rows.view l.seat);
}
