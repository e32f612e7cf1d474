use Rattle.std.proofs.Common.{◌≡◌, drop}
use Rattle.lean_disk.specs.Inside.Steps.{steps_with}
use Rattle.lean_disk.proofs.order.steps_with.Given as goal

abbrev pub invariant-loop-other : goal.invariant-loop-other
invariant-loop-other l = steps_with l.call (drop l.other-index l.calls) ≡ steps_with l.call l.calls
