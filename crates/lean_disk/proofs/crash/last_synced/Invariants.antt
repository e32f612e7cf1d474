use Rattle.std.proofs.Common.{◌≡◌, ◌≤◌, ℕ, List, length, take}
use Rattle.lean_disk.specs.Crashed.{held_at}
use Rattle.lean_disk.specs.declared.crash.Choice.{Choice}
use Rattle.lean_disk.proofs.crash.last_synced.Given as goal

abbrev pub invariant-loop-i : goal.invariant-loop-i
invariant-loop-i l = record {
  inside : l.last ≤ length l.calls;
  synced : (choice : Choice) (first : List ℕ) → (held_at choice l.moment first (take l.last l.calls)).left ≡ (held_at choice l.moment first (take l.last l.calls)).read;
}
