use Rattle.std.proofs.Common.{sym, ap}
use Rattle.lean_shell.specs.Endings.{finished}
use Rattle.lean_shell.proofs.Dumps.EndLemmas.{dumped, refused, refused_blame, refused_cause}
use Rattle.lean_shell.proofs.Runs.ReasonLemmas.{shows}
use Rattle.lean_shell.proofs.dump.dump_disk.Goals as goal

-- ## A disk that was not opened

pub returns-in-Err-clause-ends : goal.returns-in-Err-clause-ends
returns-in-Err-clause-ends g c =
    let story = g.D.Disk.story in
    let e = c.recover.ensures in
    let law = ((g.met.D.Disk g.world.𝓛 g.world.𝓜 g.world.𝓡 ((λ s x. x), (λ x. x), (λ x. x), (λ x. x))).lawful c.recover.new.disk) in
    refused (story c.args.disk.now) (story c.recover.new.disk) (story c.put_reason.new.disk) law
    (record { keeps = e.keeps; logs = e.logs; others = e.others; any = e.any_moment }) c.in-Err.reason
    (shows (story c.args.disk.now) c.recover.result c.in-Err.reason c.in-Err.is e.cause_not_formatted e.formatted e.cause_damaged) c.in-Err.ensures.left
    (g.K.Sink.held c.args.sink.now) (g.K.Sink.held c.put_reason.new.sink) (g.K.Sink.faults c.args.sink.now) (g.K.Sink.faults c.put_reason.new.sink) c.put_reason.result c.status_of.result c.status_of.ensures c.put_reason.ensures.put c.put_reason.ensures.cause

pub returns-in-Err-clause-cause_write_fault : goal.returns-in-Err-clause-cause_write_fault
returns-in-Err-clause-cause_write_fault g c = refused_blame c.in-Err.reason c.status_of.result (g.K.Sink.faults c.args.sink.now) (g.K.Sink.faults c.put_reason.new.sink) c.put_reason.result c.status_of.ensures c.put_reason.ensures.cause

pub returns-in-Err-clause-cause_disk_fault : goal.returns-in-Err-clause-cause_disk_fault
returns-in-Err-clause-cause_disk_fault g c = refused_cause c.recover.result c.in-Err.reason c.in-Err.is c.status_of.result (g.D.Disk.faults c.args.disk.now) (g.D.Disk.faults c.recover.new.disk) (g.D.Disk.faults c.put_reason.new.disk) c.status_of.ensures c.put_reason.ensures.faults c.recover.ensures.cause_disk_fault

-- ## A disk that was opened

pub returns-in-Done-clause-ends : goal.returns-in-Done-clause-ends
returns-in-Done-clause-ends g c =
    let held = g.K.Sink.held in
    let faults = g.K.Sink.faults in
    let story = g.D.Disk.story in
    let e = c.recover.ensures in
    let k = c.in-Ok.ensures in
    let law = ((g.met.D.Disk g.world.𝓛 g.world.𝓜 g.world.𝓡 ((λ s x. x), (λ x. x), (λ x. x), (λ x. x))).lawful c.recover.new.disk) in
    dumped c.every_undone.ensures c.every_own.ensures c.every_listing.ensures (story c.args.disk.now) (story c.recover.new.disk) (story c.put_recovered.new.disk) law
    (record { keeps = e.keeps; logs = e.logs; others = e.others; any = e.any_moment }) c.in-Ok.recovered
    (record { answer = k.answer; opened = k.opened; installed = k.installed; whole = k.whole; beyond = k.beyond })
    (held c.args.sink.now) (held c.put_recovered.new.sink) (faults c.args.sink.now) (faults c.put_recovered.new.sink) c.put_recovered.result 0 (sym (ap finished c.in-Done.is))
    c.put_recovered.ensures.put

pub returns-clause-ends : goal.returns-clause-ends
returns-clause-ends g c =
    let held = g.K.Sink.held in
    let faults = g.K.Sink.faults in
    let story = g.D.Disk.story in
    let e = c.recover.ensures in
    let k = c.in-Ok.ensures in
    let law = ((g.met.D.Disk g.world.𝓛 g.world.𝓜 g.world.𝓡 ((λ s x. x), (λ x. x), (λ x. x), (λ x. x))).lawful c.recover.new.disk) in
    dumped c.every_undone.ensures c.every_own.ensures c.every_listing.ensures (story c.args.disk.now) (story c.recover.new.disk) (story c.put_recovered.new.disk) law
    (record { keeps = e.keeps; logs = e.logs; others = e.others; any = e.any_moment }) c.in-Ok.recovered
    (record { answer = k.answer; opened = k.opened; installed = k.installed; whole = k.whole; beyond = k.beyond })
    (held c.args.sink.now) (held c.put_recovered.new.sink) (faults c.args.sink.now) (faults c.put_recovered.new.sink) c.put_recovered.result 5 (sym (ap finished c.in-Failed.is))
    c.put_recovered.ensures.put
