use Rattle.std.proofs.Common.{◌≡◌, [], replicate, List, vec_len, vec_capacity}
use Rattle.group_commit.specs.declared.queue.End.{End}
use Rattle.group_commit.proofs.unripe.Unripe.new.Given as goal

abbrev pub invariant-loop : goal.invariant-loop
invariant-loop l = record {
  items : l.queues.items ≡ replicate {A = List End} l.counter [];
  len : vec_len l.queues ≡ l.counter;
  room : vec_capacity l.queues ≡ l.workers;
}
