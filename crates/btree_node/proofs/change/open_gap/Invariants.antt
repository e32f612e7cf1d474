use Rattle.std.proofs.Common.{◌-◌, ◌≡◌, ◌≤◌}
use Rattle.btree_node.specs.Inside.{spread}
use Rattle.btree_node.proofs.change.open_gap.Given as goal

abbrev pub invariant-loop-i : goal.invariant-loop-i
invariant-loop-i l = record {
  order : l.from ≤ l.i;
  within : l.i ≤ l.end;
  spread : l.words ≡ spread l.fn.words l.i l.end;
}

abbrev pub decreases-loop-i : goal.decreases-loop-i
decreases-loop-i l = l.i - l.from
