use Rattle.std.proofs.Common.{◌≡◌, ℕ, true, length, take}
use Rattle.lean_disk.specs.Memory.{view_at, all_here, begun}
use Rattle.lean_disk.specs.Crashed.{left_by}
use Rattle.lean_disk.proofs.mem_disk.MemDisk.crash.Given as goal

abbrev pub invariant-loop-slot : goal.invariant-loop-slot
invariant-loop-slot l = record {
  each : (a : ℕ) → view_at l.list.items a ≡ begun (left_by l.choice l.moment (view_at (take l.slot-index l.self.areas.items) a));
  whole : all_here l.list.items ≡ true;
  size : length l.list.items ≡ l.slot-index;
}
