use Rattle.std.proofs.Common.{List, length, subst}
use Rattle.page_model.specs.Page.{Page}
use Rattle.page_model.specs.Tree.{value}
use Rattle.buffered_engine.specs.disk_image.Formats.{format_of}
use Rattle.node_tree.specs.Nodes.{nodes_of}
use Rattle.lean_shell.specs.Inside.Puts.{PutsMap, counts_of}
use Rattle.lean_shell.proofs.Dumps.LeafLemmas.{opened_cut, opened_then}
use Rattle.lean_shell.proofs.dump.put_recovered.Goals as goal

pub returns-in_default-clause-put : goal.returns-in_default-clause-put
returns-in_default-clause-put g c =
    let pages = c.args.it.now.pages.items in
    opened_cut c.every_listing.ensures (counts_of c.args.it.now) (value (format_of (length pages)) (nodes_of pages)) c.put_opened.result c.in_default.is (g.K.Sink.held c.args.sink.now) (g.K.Sink.held c.put_opened.new.sink)
    (g.K.Sink.faults c.args.sink.now) (g.K.Sink.faults c.put_opened.new.sink) (g.D.Disk.story c.args.disk.now) (g.D.Disk.story c.put_opened.new.disk) c.put_opened.ensures.put c.put_opened.ensures.cause

pub returns-clause-put : goal.returns-clause-put
returns-clause-put g c =
    let held = g.K.Sink.held in
    let faults = g.K.Sink.faults in
    let story = g.D.Disk.story in
    let pages = c.args.it.now.pages.items in
    opened_then (counts_of c.args.it.now) (value (format_of (length pages)) (nodes_of pages)) c.put_opened.result c.put_map.result c.in-Done.is (held c.args.sink.now) (held c.put_opened.new.sink) (held c.put_map.new.sink)
    (faults c.args.sink.now) (faults c.put_opened.new.sink) (faults c.put_map.new.sink) (story c.args.disk.now) (story c.put_opened.new.disk) (story c.put_map.new.disk) c.put_opened.ensures.put c.put_opened.ensures.cause
    (subst (λ (ps : List Page). PutsMap (value (format_of (length ps)) (nodes_of ps)) c.put_map.result (held c.put_opened.new.sink) (held c.put_map.new.sink) (faults c.put_opened.new.sink) (faults c.put_map.new.sink) (story c.put_opened.new.disk) (story c.put_map.new.disk))
    c.deref.ensures.value c.put_map.ensures.put)
