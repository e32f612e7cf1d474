use Rattle.std.proofs.Common.{◌≡◌, drop}
use Rattle.lean_disk.specs.Inside.Steps.{areas_step}
use Rattle.lean_disk.proofs.order.areas_step.Given as goal

abbrev pub invariant-loop-slot : goal.invariant-loop-slot
invariant-loop-slot l = areas_step l.calls (drop l.slot-index l.areas) ≡ areas_step l.calls l.areas
