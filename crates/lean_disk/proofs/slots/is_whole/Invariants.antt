use Rattle.std.proofs.Common.{◌≡◌, drop}
use Rattle.lean_disk.specs.Memory.{all_here}
use Rattle.lean_disk.proofs.slots.is_whole.Given as goal

abbrev pub invariant-loop-slot : goal.invariant-loop-slot
invariant-loop-slot l = all_here (drop l.slot-index l.areas) ≡ all_here l.areas
