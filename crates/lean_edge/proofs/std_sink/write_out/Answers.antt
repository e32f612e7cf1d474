use Rattle.std.proofs.Common.{take}
use Rattle.lean_edge.proofs.StreamLemmas.{appends_keeps, appends_more, within_more}
use Rattle.lean_edge.proofs.std_sink.write_out.Goals as goal
use Rattle.lean_edge.proofs.std_sink.write_out.Goals.{in-Ok, in-Err}

pub loop-preserved : goal.loop-preserved
loop-preserved g c =
    let contents = g.W.Write.contents in
    elim c.match-write.branch [
      | in-Ok w ↦ (rw w.count-is (within_more c.args.bytes.now c.loop.count w.in-Ok.more c.loop.invariant.0 w.in-Ok.ensures.bound), rw w.count-is (appends_more (contents c.args.writer.now) (contents c.loop.writer) (contents c.write.new.self) c.args.bytes.now c.loop.count w.in-Ok.more c.loop.invariant.1 w.in-Ok.ensures.bytes))
      | in-Err w ↦ (rw w.count-is c.loop.invariant.0, rw w.count-is (appends_keeps (contents c.args.writer.now) (contents c.loop.writer) (contents c.write.new.self) (take c.loop.count c.args.bytes.now) c.loop.invariant.1 w.in-Err.ensures.bytes))
    ]
