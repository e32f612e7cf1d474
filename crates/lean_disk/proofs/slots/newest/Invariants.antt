use Rattle.std.proofs.Common.{take}
use Rattle.lean_disk.specs.Inside.Over.{IsNewest}
use Rattle.lean_disk.proofs.slots.newest.Given as goal

abbrev pub invariant-loop-slot : goal.invariant-loop-slot
invariant-loop-slot l = IsNewest l.made (take l.slot-index l.areas) l.newest
