use Rattle.std.proofs.Common.{◌≡◌, ◌<◌, ◌+◌, ℕ, length, get_or}
use Rattle.session_desks.proofs.syncs.same_heads.Given as goal

abbrev pub invariant-loop-log : goal.invariant-loop-log
invariant-loop-log l = record {
  count : length l.copy ≡ length l.heads;
  same : (k : ℕ) → k + 1 < l.log → get_or l.copy k 0 ≡ get_or l.heads k 0;
}
