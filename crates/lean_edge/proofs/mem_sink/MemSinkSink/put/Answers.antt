use Rattle.lean_edge.proofs.SinkLemmas.{puts_prefix}
use Rattle.lean_edge.proofs.mem_sink.MemSinkSink.put.Goals as goal

pub returns-then-is_to_fail-clause-put : goal.returns-then-is_to_fail-clause-put
returns-then-is_to_fail-clause-put g c = rw (← c.self.view_is) (puts_prefix c.args.bytes.now c.self.inside.bytes.items c.hold_prefix.new.held.items c.self.inside.prefix c.hold_prefix.ensures)
