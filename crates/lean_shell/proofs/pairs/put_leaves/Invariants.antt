use Rattle.std.proofs.Common.{◌≡◌, ◌≤◌, ◌-◌, length}
use Rattle.map_model.specs.Maps.{key_end}
use Rattle.page_model.specs.Tree.{value}
use Rattle.buffered_engine.specs.disk_image.Formats.{format_of}
use Rattle.node_tree.specs.Nodes.{nodes_of}
use Rattle.pair_walk.specs.Fences.{IsFence}
use Rattle.lean_shell.specs.Inside.Puts.{ArePutTo}
use Rattle.lean_shell.proofs.pairs.put_leaves.Given as goal

abbrev pub invariant-loop-fence : goal.invariant-loop-fence
invariant-loop-fence g l =
    let held = g.K.Sink.held in
    let faults = g.K.Sink.faults in
    let story = g.D.Disk.story in
    record {
      put : ArePutTo (value (format_of (length l.pages)) (nodes_of l.pages)) l.fence (held l.fn.sink) (held l.sink) (faults l.fn.sink) (faults l.sink) (story l.fn.disk) (story l.disk);
      within : l.fence ≤ key_end;
      fence : IsFence (length l.pages) (nodes_of l.pages) l.fence;
      faults : g.D.Disk.faults l.disk ≡ g.D.Disk.faults l.fn.disk;
    }

abbrev pub decreases-loop-fence : goal.decreases-loop-fence
decreases-loop-fence g l = key_end - l.fence
