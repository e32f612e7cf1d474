use Rattle.std.proofs.Common.{◌≡◌, ℕ, true, length}
use Rattle.lean_disk.specs.Memory.{view_at, all_here, never}
use Rattle.lean_disk.proofs.mem_disk.MemDisk.new.Given as goal

abbrev pub invariant-loop : goal.invariant-loop
invariant-loop l = record {
  each : (a : ℕ) → view_at l.list.items a ≡ never;
  whole : all_here l.list.items ≡ true;
  size : length l.list.items ≡ l.counter;
}
