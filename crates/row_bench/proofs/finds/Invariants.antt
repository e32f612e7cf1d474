use Rattle.std.proofs.Common.{◌≡◌}
use Rattle.row_sessions.specs.Standing.{Stands, workers_of}
use Rattle.row_bench.proofs.finds.Given as goal

abbrev pub invariant-loop : goal.invariant-loop
invariant-loop l = Stands l.sessions × (workers_of l.sessions ≡ workers_of l.fn.sessions)
