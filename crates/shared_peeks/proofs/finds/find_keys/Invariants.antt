use Rattle.std.proofs.Common.{◌≡◌, ◌≤◌, ◌<◌}
use Rattle.shared_peeks.specs.Peeked.{CanPeek}
use Rattle.shared_peeks.proofs.finds.find_keys.Given as goal

abbrev pub invariant-loop-key : goal.invariant-loop-key
invariant-loop-key l = record {
  can : CanPeek l.rows l.frames l.desk;
  worker : l.desk.worker ≡ l.initial.desk.worker;
  low : 1 ≤ l.key;
  high : l.key ≤ 61;
  less : l.desk.good < l.key;
}
