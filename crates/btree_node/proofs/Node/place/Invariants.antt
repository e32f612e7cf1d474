use Rattle.std.proofs.Common.{◌-◌, ◌≤◌, length}
use Rattle.btree_node.specs.Inside.{place}
use Rattle.btree_node.proofs.Node.place.Given as goal

abbrev pub invariant-loop-low : goal.invariant-loop-low
invariant-loop-low l = record {
  after : l.low ≤ place l.key l.self.node.pairs;
  before : place l.key l.self.node.pairs ≤ l.high;
  within : l.high ≤ length l.self.node.pairs;
}

abbrev pub decreases-loop-low : goal.decreases-loop-low
decreases-loop-low l = l.high - l.low
