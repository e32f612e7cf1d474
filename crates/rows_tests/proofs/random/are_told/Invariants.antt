use Rattle.std.proofs.Common.{◌≤◌}
use Rattle.row_sessions.specs.Standing.{Stands, workers_of}
use Rattle.rows_tests.proofs.random.are_told.Given as goal

abbrev pub invariant-loop : goal.invariant-loop
invariant-loop l = Stands l.sessions × (l.case.workers ≤ workers_of l.sessions)
