use Rattle.std.proofs.Common.{◌≡◌, ◌^◌, ◌-◌}
use Rattle.bench.proofs.full_leaf.Given as goal

abbrev pub invariant-loop-i : goal.invariant-loop-i
invariant-loop-i l = (l.leaf.node.low ≡ 0) × (l.leaf.node.high ≡ 2 ^ 64 - 1)
