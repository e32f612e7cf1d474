use Rattle.std.proofs.Common.{◌≤◌}
use Rattle.row_sessions.specs.Standing.{Stands, workers_of}
use Rattle.rows_tests.proofs.cases.makes_changes.Given as goal

abbrev pub invariant-loop-change : goal.invariant-loop-change
invariant-loop-change l = Stands l.sessions × (3 ≤ workers_of l.sessions)
