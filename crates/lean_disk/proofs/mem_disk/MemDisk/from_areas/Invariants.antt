use Rattle.std.proofs.Common.{◌≡◌, ℕ, true, length}
use Rattle.lean_disk.specs.Memory.{view_at, all_here, begun}
use Rattle.lean_disk.specs.MemDisk.{bytes_at}
use Rattle.lean_disk.proofs.mem_disk.MemDisk.from_areas.Given as goal

abbrev pub invariant-loop-bytes : goal.invariant-loop-bytes
invariant-loop-bytes l = record {
  each : (a : ℕ) → view_at l.list.items a ≡ begun (bytes_at l.yielded a);
  whole : all_here l.list.items ≡ true;
  size : length l.list.items ≡ length l.yielded;
}
