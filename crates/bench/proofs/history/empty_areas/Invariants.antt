use Rattle.std.proofs.Common.{◌≡◌, vec_len}
use Rattle.bench.proofs.history.empty_areas.Given as goal

abbrev pub invariant-loop : goal.invariant-loop
invariant-loop l = vec_len l.areas ≡ l.counter
