use Rattle.std.proofs.Common.{◌≤◌}
use Rattle.row_sessions.specs.Standing.{Stands, workers_of}
use Rattle.rows_tests.proofs.structure.finds.Given as goal

abbrev pub invariant-loop-place : goal.invariant-loop-place
invariant-loop-place l = Stands l.sessions × (3 ≤ workers_of l.sessions)
