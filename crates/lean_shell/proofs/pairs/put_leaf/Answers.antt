use Rattle.std.proofs.Common.{◌<◌, ◌≤◌, length, refl, ◌∙◌, arith}
use Rattle.lean_shell.proofs.Dumps.LeafLemmas.{leaf_cut, leaf_end, leaf_more, lines}
use Rattle.lean_shell.proofs.Dumps.PutLemmas.{still_all}
use Rattle.lean_shell.proofs.pairs.put_leaf.Goals as goal

pub loop-at-init : goal.loop-at-init
loop-at-init g c = record {
  put = still_all (lines c.args.leaf.now.node.pairs) (g.K.Sink.held c.args.sink.now) (g.K.Sink.faults c.args.sink.now) (g.D.Disk.story c.args.disk.now);
  faults = refl;
}

pub returns-in_default-clause-put : goal.returns-in_default-clause-put
returns-in_default-clause-put g c =
    let held = g.K.Sink.held in
    let faults = g.K.Sink.faults in
    let story = g.D.Disk.story in
    let within : c.loop-at.at < length c.args.leaf.now.node.pairs = omega arith in
    leaf_cut c.args.leaf.now.node.pairs c.loop-at.at within (held c.args.sink.now) (held c.loop-at.sink) (held c.put_live.new.sink) (faults c.args.sink.now) (faults c.loop-at.sink) (faults c.put_live.new.sink)
    (story c.args.disk.now) (story c.loop-at.disk) (story c.put_live.new.disk) c.loop-at.invariant.put c.put_live.result c.put_live.ensures.put c.in_default.is

pub loop-at-preserved : goal.loop-at-preserved
loop-at-preserved g c =
    let held = g.K.Sink.held in
    let faults = g.K.Sink.faults in
    let story = g.D.Disk.story in
    let within : c.loop-at.at < length c.args.leaf.now.node.pairs = omega arith in
    record {
      put = leaf_more c.args.leaf.now.node.pairs c.loop-at.at within (held c.args.sink.now) (held c.loop-at.sink) (held c.put_live.new.sink) (faults c.args.sink.now) (faults c.loop-at.sink) (faults c.put_live.new.sink)
          (story c.args.disk.now) (story c.loop-at.disk) (story c.put_live.new.disk) c.loop-at.invariant.put c.put_live.result c.put_live.ensures.put c.in-Done.is;
      faults = c.put_live.ensures.faults ∙ c.loop-at.invariant.faults;
    }

pub returns-clause-put : goal.returns-clause-put
returns-clause-put g c =
    let held = g.K.Sink.held in
    let faults = g.K.Sink.faults in
    let story = g.D.Disk.story in
    let end : length c.args.leaf.now.node.pairs ≤ c.loop-at.at = omega arith in
    leaf_end c.args.leaf.now.node.pairs c.loop-at.at end (held c.args.sink.now) (held c.loop-at.sink) (faults c.args.sink.now) (faults c.loop-at.sink) (story c.args.disk.now) (story c.loop-at.disk) c.loop-at.invariant.put
