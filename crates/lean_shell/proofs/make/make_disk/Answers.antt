use Rattle.std.proofs.Common.{Option, ap, subst, sym}
use Rattle.buffered_engine.specs.engine_front.Fronts.{events_in}
use Rattle.workload_run.specs.declared.run.Made.{Made}
use Rattle.lean_shell.specs.Endings.{finished}
use Rattle.lean_shell.specs.Inside.Makings.{MakesHere}
use Rattle.lean_shell.proofs.MakeLemmas.{line_blame, line_makes, none_makes}
use Rattle.lean_shell.proofs.make.make_disk.Goals as goal

pub returns-in_default-clause-ends : goal.returns-in_default-clause-ends
returns-in_default-clause-ends g c =
    let x = c.execute-status.result in (
      x.disk,
      none_makes c.args.workload x.status (events_in x.front.view) (g.D.Disk.story c.args.disk) (g.D.Disk.story x.disk) (g.K.Sink.held c.args.sink.now) (g.K.Sink.held c.execute-status.new.sink) (g.K.Sink.faults c.args.sink.now) (g.K.Sink.faults c.execute-status.new.sink)
          (subst (λ (o : Option Made). MakesHere c.args.workload o x.status (events_in x.front.view) (g.D.Disk.story c.args.disk) (g.D.Disk.story x.disk) (g.K.Sink.held c.args.sink.now) (g.K.Sink.held c.execute-status.new.sink) (g.K.Sink.faults c.args.sink.now) (g.K.Sink.faults c.execute-status.new.sink)) c.in_default.is c.execute-status.ensures.ends),
    )

pub returns-in-Done-clause-ends : goal.returns-in-Done-clause-ends
returns-in-Done-clause-ends g c =
    let x = c.execute-status.result in (
      x.disk,
      line_makes c.args.workload c.in-Some.made x.status 0 c.put_made.result (sym (ap finished c.in-Done.is)) (events_in x.front.view) (g.D.Disk.story c.args.disk) (g.D.Disk.story x.disk) (g.D.Disk.story c.put_made.new.disk) (g.K.Sink.held c.args.sink.now) (g.K.Sink.held c.execute-status.new.sink) (g.K.Sink.held c.put_made.new.sink) (g.K.Sink.faults c.args.sink.now) (g.K.Sink.faults c.execute-status.new.sink) (g.K.Sink.faults c.put_made.new.sink)
          (subst (λ (o : Option Made). MakesHere c.args.workload o x.status (events_in x.front.view) (g.D.Disk.story c.args.disk) (g.D.Disk.story x.disk) (g.K.Sink.held c.args.sink.now) (g.K.Sink.held c.execute-status.new.sink) (g.K.Sink.faults c.args.sink.now) (g.K.Sink.faults c.execute-status.new.sink)) c.in-Some.is c.execute-status.ensures.ends)
          c.put_made.ensures.put c.put_made.ensures.cause,
    )

pub returns-in-Failed-clause-ends : goal.returns-in-Failed-clause-ends
returns-in-Failed-clause-ends g c =
    let x = c.execute-status.result in (
      x.disk,
      line_makes c.args.workload c.in-Some.made x.status 5 c.put_made.result (sym (ap finished c.in-Failed.is)) (events_in x.front.view) (g.D.Disk.story c.args.disk) (g.D.Disk.story x.disk) (g.D.Disk.story c.put_made.new.disk) (g.K.Sink.held c.args.sink.now) (g.K.Sink.held c.execute-status.new.sink) (g.K.Sink.held c.put_made.new.sink) (g.K.Sink.faults c.args.sink.now) (g.K.Sink.faults c.execute-status.new.sink) (g.K.Sink.faults c.put_made.new.sink)
          (subst (λ (o : Option Made). MakesHere c.args.workload o x.status (events_in x.front.view) (g.D.Disk.story c.args.disk) (g.D.Disk.story x.disk) (g.K.Sink.held c.args.sink.now) (g.K.Sink.held c.execute-status.new.sink) (g.K.Sink.faults c.args.sink.now) (g.K.Sink.faults c.execute-status.new.sink)) c.in-Some.is c.execute-status.ensures.ends)
          c.put_made.ensures.put c.put_made.ensures.cause,
    )

pub returns-in-Done-clause-cause_write_fault : goal.returns-in-Done-clause-cause_write_fault
returns-in-Done-clause-cause_write_fault g c =
    line_blame (g.K.Sink.faults c.args.sink.now) (g.K.Sink.faults c.execute-status.new.sink) (g.K.Sink.faults c.put_made.new.sink) c.put_made.result 0 c.execute-status.ensures.cause_write_fault.later (sym (ap finished c.in-Done.is)) c.put_made.ensures.cause

pub returns-in-Failed-clause-cause_write_fault : goal.returns-in-Failed-clause-cause_write_fault
returns-in-Failed-clause-cause_write_fault g c =
    line_blame (g.K.Sink.faults c.args.sink.now) (g.K.Sink.faults c.execute-status.new.sink) (g.K.Sink.faults c.put_made.new.sink) c.put_made.result 5 c.execute-status.ensures.cause_write_fault.later (sym (ap finished c.in-Failed.is)) c.put_made.ensures.cause
