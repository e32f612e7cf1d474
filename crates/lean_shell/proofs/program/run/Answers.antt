use Rattle.buffered_engine.specs.engine_front.Fronts.{events_in}
use Rattle.lean_shell.specs.Words.{texts}
use Rattle.lean_shell.proofs.CompletenessLemmas.{complete, workload_done}
use Rattle.lean_shell.proofs.program.run.Goals as goal

pub returns-clause-complete : goal.returns-clause-complete
returns-clause-complete g c none =
    let story = g.D.Disk.story in
    let held = g.K.Sink.held in
    let e = c.run_alone.ensures in
    let x = c.run_alone.result in
    complete c.every_break.ensures (texts c.args.words.now) x.status (events_in x.front.view) (story c.args.disk) (story x.disk) (g.S.Source.feed c.args.source.now) (g.S.Source.feed c.run_alone.new.source) (held c.args.sink.now) (held c.run_alone.new.sink)
    (record { source = g.S.Source.faults c.args.source.now; sink = g.K.Sink.faults c.args.sink.now; disk = g.D.Disk.faults c.args.disk }) (record { source = g.S.Source.faults c.run_alone.new.source; sink = g.K.Sink.faults c.run_alone.new.sink; disk = g.D.Disk.faults x.disk })
    e.ends none
    (λ workload m asks ready.
    let made = e.make workload asks in
    workload_done c.every_break.ensures workload x.status (events_in x.front.view) (story c.args.disk) (story made.0) (story x.disk) (held c.args.sink.now) (held c.run_alone.new.sink) (g.K.Sink.faults c.args.sink.now) (g.K.Sink.faults c.run_alone.new.sink) (g.D.Disk.faults c.args.disk) (g.D.Disk.faults x.disk)
    made.1 e.ends.cause_write_fault e.ends.cause_disk_fault none.sink none.disk m ready)
