use Rattle.std.proofs.Common.{◌≤◌}
use Rattle.row_sessions.specs.Standing.{Stands, workers_of}
use Rattle.rows_tests.proofs.structure.all_go.Given as goal

abbrev pub invariant-loop-step : goal.invariant-loop-step
invariant-loop-step l = Stands l.sessions × (3 ≤ workers_of l.sessions)
