use Rattle.std.proofs.Common.{◌≤◌}
use Rattle.row_sessions.specs.Standing.{Stands, workers_of}
use Rattle.shared_tests.proofs.peeking.put_keys.Given as goal

abbrev pub invariant-loop-key : goal.invariant-loop-key
invariant-loop-key l = record { stands : Stands l.sessions; workers : 2 ≤ workers_of l.sessions; low : l.key ≤ 61 }
