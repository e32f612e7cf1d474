use Rattle.std.proofs.Common.{◌≡◌, ◌≤◌}
use Rattle.shared_peeks.specs.Locked.{CanLock}
use Rattle.shared_peeks.proofs.locks.lock_keys.Given as goal

abbrev pub invariant-loop-i : goal.invariant-loop-i
invariant-loop-i l = record {
  can : CanLock l.rows l.frames l.locks l.desk;
  worker : l.desk.worker ≡ l.initial.desk.worker;
  high : l.i ≤ 30;
  less : l.desk.good ≤ l.i;
}
