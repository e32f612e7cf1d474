use Rattle.std.proofs.Common.{◌≡◌}
use Rattle.row_sessions.specs.Standing.{Stands, workers_of}
use Rattle.row_bench.proofs.puts.Given as goal

abbrev pub invariant-loop-i : goal.invariant-loop-i
invariant-loop-i l = Stands l.sessions × (workers_of l.sessions ≡ workers_of l.fn.sessions)
