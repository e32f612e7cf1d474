use Rattle.std.proofs.Common.{◌≡◌, take}
use Rattle.lean_disk.specs.Crashed.{held_at}
use Rattle.lean_disk.specs.declared.crash.Choice.{Choice}
use Rattle.lean_disk.proofs.crash.read_after.Given as goal

abbrev pub invariant-loop-call : goal.invariant-loop-call
invariant-loop-call l = (choice : Choice) → (held_at choice l.moment l.first (take l.call-index l.calls)).read ≡ l.read.items
