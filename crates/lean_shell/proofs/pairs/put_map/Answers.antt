use Rattle.std.proofs.Common.{length}
use Rattle.page_model.specs.Tree.{value}
use Rattle.buffered_engine.specs.disk_image.Formats.{format_of}
use Rattle.node_tree.specs.Nodes.{nodes_of}
use Rattle.lean_shell.proofs.Dumps.LeafLemmas.{map_cut, map_end}
use Rattle.lean_shell.proofs.pairs.put_map.Goals as goal

pub returns-in_default-clause-put : goal.returns-in_default-clause-put
returns-in_default-clause-put g c =
    let held = g.K.Sink.held in
    let faults = g.K.Sink.faults in
    let story = g.D.Disk.story in
    let pages = c.args.pages.now in
    map_cut (value (format_of (length pages)) (nodes_of pages)) c.put_leaves.result c.in_default.is (held c.args.sink.now) (held c.put_leaves.new.sink) (faults c.args.sink.now) (faults c.put_leaves.new.sink)
    (story c.args.disk.now) (story c.put_leaves.new.disk) c.put_leaves.ensures.put

pub returns-clause-put : goal.returns-clause-put
returns-clause-put g c =
    let held = g.K.Sink.held in
    let faults = g.K.Sink.faults in
    let story = g.D.Disk.story in
    let pages = c.args.pages.now in
    map_end (value (format_of (length pages)) (nodes_of pages)) c.put_leaves.result c.put_end.result c.in-Done.is (held c.args.sink.now) (held c.put_leaves.new.sink) (held c.put_end.new.sink) (faults c.args.sink.now) (faults c.put_leaves.new.sink) (faults c.put_end.new.sink)
    (story c.args.disk.now) (story c.put_leaves.new.disk) (story c.put_end.new.disk) c.put_leaves.ensures.put c.put_end.ensures.put c.put_end.ensures.cause
