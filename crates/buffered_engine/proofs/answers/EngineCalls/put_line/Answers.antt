use Rattle.buffered_engine.proofs.NotedLemmas.{engine_on}
use Rattle.buffered_engine.proofs.answers.EngineCalls.put_line.Goals as goal

pub invariant_of-self : goal.invariant_of-self
invariant_of-self g c = (engine_on g.D.Disk.story c.self.inside.machine c.put.new.disk c.self.inside.next c.self.inside.scan c.self.inside.unripe c.put.result c.put.ensures.noted c.put.ensures.not_noted c.self.invariant.0, c.self.invariant.1)
