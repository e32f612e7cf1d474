use Rattle.buffered_engine.proofs.CallLemmas.{hindered_does}
use Rattle.buffered_engine.proofs.engine.Engine.answer_abort.Goals as goal

pub returns-clause-does : goal.returns-clause-does
returns-clause-does g c =
    let e = c.ask_abort.ensures in
    hindered_does g.D.Disk.story c.args.self.now c.ask_abort.new.self g.D.Disk.faults c.ask_abort.result e.went e.may e.cause_disk_fault
