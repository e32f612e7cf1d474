use Rattle.std.proofs.Common.{◌≡◌, ◌<◌, ◌≤◌, [], ℕ, length, get_or}
use Rattle.group_commit.specs.Queues.{settled}
use Rattle.group_commit.proofs.unripe.Unripe.settle.Given as goal

abbrev pub invariant-loop-i : goal.invariant-loop-i
invariant-loop-i l = record {
  count : length l.self-inside.queues.items ≡ length l.initial.self-inside.queues.items;
  done : (k : ℕ) → k < l.i → get_or l.self-inside.queues.items k [] ≡ settled (get_or l.flushed k 0) l.all (get_or l.initial.self-inside.queues.items k []);
  rest : (k : ℕ) → l.i ≤ k → get_or l.self-inside.queues.items k [] ≡ get_or l.initial.self-inside.queues.items k [];
}
