use Rattle.std.proofs.Common.{◌≡◌, true}
use Rattle.session_state.specs.rows_trait.Views.{state}
use Rattle.row_ends.specs.Flushed.{Looked, flushed_to}
use Rattle.row_ends.proofs.begins.least_flushed.Given as goal

abbrev pub invariant-loop-log : goal.invariant-loop-log
invariant-loop-log g l = record {
  fits : g.R.Rows.fits l.rows l.seat × (g.R.Rows.shape l.rows ≡ g.R.Rows.shape l.fn.rows);
  seen : (g.R.Rows.shape l.fn.rows).alone ≡ true → Looked (g.R.Rows.view l.fn.seat) (g.R.Rows.view l.seat);
  least : (g.R.Rows.shape l.fn.rows).alone ≡ true → l.least ≡ flushed_to (state (g.R.Rows.view l.fn.seat)).core l.log;
}
