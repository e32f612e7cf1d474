use Rattle.std.proofs.Common.{◌≤◌}
use Rattle.row_sessions.specs.Standing.{Stands, workers_of}
use Rattle.rows_tests.proofs.cases.are_told.Given as goal

abbrev pub invariant-loop-case : goal.invariant-loop-case
invariant-loop-case l = Stands l.sessions × (3 ≤ workers_of l.sessions)
