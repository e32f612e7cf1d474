use Rattle.std.proofs.Common.{◌≡◌}
use Rattle.row_sessions.specs.Standing.{Stands, workers_of}
use Rattle.row_bench.proofs.unlock_all.Given as goal

abbrev pub invariant-loop-key : goal.invariant-loop-key
invariant-loop-key l = Stands l.sessions × (workers_of l.sessions ≡ workers_of l.fn.sessions)
