use Rattle.std.proofs.Common.{◌≡◌, take}
use Rattle.lean_disk.specs.Crashed.{held_at}
use Rattle.lean_disk.proofs.crash.left_after.Given as goal

abbrev pub invariant-loop-call : goal.invariant-loop-call
invariant-loop-call l = record {
  read : (held_at l.choice l.moment l.synced (take l.call-index l.calls)).read ≡ l.read.items;
  left : (held_at l.choice l.moment l.synced (take l.call-index l.calls)).left ≡ l.left.items;
}
