use Rattle.buffered_engine.proofs.CallLemmas.{fewer_told, scan_does}
use Rattle.buffered_engine.proofs.engine.Engine.answer_scan.Goals as goal

pub returns-clause-does : goal.returns-clause-does
returns-clause-does g c =
    let e = c.ask_scan.ensures in
    scan_does g.D.Disk.story c.args.self.now c.ask_scan.new.self g.D.Disk.faults c.ask_scan.result e.went e.cause_disk_fault

pub returns-clause-fewer : goal.returns-clause-fewer
returns-clause-fewer g c =
    let e = c.ask_scan.ensures in
    fewer_told g.D.Disk.story c.args.self.now c.ask_scan.new.self c.ask_scan.result e.went.works e.fewer
