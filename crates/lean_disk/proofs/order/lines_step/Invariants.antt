use Rattle.std.proofs.Common.{◌≡◌, drop}
use Rattle.lean_disk.specs.Inside.Steps.{lines_step}
use Rattle.lean_disk.proofs.order.lines_step.Given as goal

abbrev pub invariant-loop-call : goal.invariant-loop-call
invariant-loop-call l = lines_step (drop l.call-index l.calls) l.others ≡ lines_step l.calls l.others
