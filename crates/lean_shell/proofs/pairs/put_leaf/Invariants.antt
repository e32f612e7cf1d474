use Rattle.std.proofs.Common.{◌≡◌, drop}
use Rattle.lean_shell.specs.Inside.Puts.{IsStillToPut}
use Rattle.lean_shell.proofs.Dumps.LeafLemmas.{lines}
use Rattle.lean_shell.proofs.pairs.put_leaf.Given as goal

abbrev pub invariant-loop-at : goal.invariant-loop-at
invariant-loop-at g l =
    let held = g.K.Sink.held in
    let faults = g.K.Sink.faults in
    let story = g.D.Disk.story in
    record {
      put : IsStillToPut (lines l.leaf.node.pairs) (lines (drop l.at l.leaf.node.pairs)) (held l.fn.sink) (held l.sink) (faults l.fn.sink) (faults l.sink) (story l.fn.disk) (story l.disk);
      faults : g.D.Disk.faults l.disk ≡ g.D.Disk.faults l.fn.disk;
    }
