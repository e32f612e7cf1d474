use Rattle.buffered_engine.proofs.CallLemmas.{line_does}
use Rattle.buffered_engine.proofs.engine.Engine.answer.Goals as goal

pub returns : goal.returns
returns g c =
    line_does g.D.Disk.story c.args.session c.args.call.now c.args.self.now c.ask.new.self g.D.Disk.faults c.ask.result.answer c.ask.ensures.asked c.ask.ensures.cause_disk_fault
