use Rattle.std.proofs.Common.{◌<◌, ◌-◌, ◌^◌, ℕ, Some, refl, subst, arith}
use Rattle.engine_front.specs.Fronts.{events_in}
use Rattle.script_run.specs.Runs.{ReadsTo, Standing}
use Rattle.script_run.specs.declared.stop.Stop.TheVariants.{ReadFault}
use Rattle.transcripts.specs.Told.{LineFits}
use Rattle.script_run.proofs.StepLemmas.{no_step}
use Rattle.script_run.proofs.StopLemmas.{no_cause, of_no_disk, of_no_sink, ok_no_err, running_goes, running_no_read}
use Rattle.script_run.proofs.run.take_step.Goals as goal

pub returns-in-Err-clause-runs : goal.returns-in-Err-clause-runs
returns-in-Err-clause-runs g c o xs start seen run was =
    let E = g.E.Calls in
    let D = g.D.Disk in
    let e0 = c.args.engine.now in
    let feed = g.S.Source.feed c.next_call.new.source in
    no_step c.laws.ensures (E.sessions e0) (E.group e0) o xs (c.args.number - 1) c.args.number (omega arith) start feed seen c.next_call.new.reader (E.memory e0) (g.K.Sink.held c.args.sink.now) (D.story (E.disk e0)) c.told.ensures.lawful (Standing (E.in_run e0 o) (events_in c.args.events.now.view))
    c.in-Err.stop (omega arith) (c.in-Err.ensures).stop run
    (λ newer hand. subst (λ (n : ℕ). ReadsTo (Some c.in-Err.stop) n newer hand c.args.number start feed c.next_call.new.reader seen) c.session_count.ensures.count ((c.in-Err.ensures).read start seen was newer hand))

pub returns-in-Err-clause-cause_write_fault : goal.returns-in-Err-clause-cause_write_fault
returns-in-Err-clause-cause_write_fault g c = record { later = omega arith; cause = λ e. absurd (of_no_sink c.in-Err.stop (c.in-Err.ensures).stop e); calm = λ n. refl }

pub returns-in-Err-clause-cause_disk_fault : goal.returns-in-Err-clause-cause_disk_fault
returns-in-Err-clause-cause_disk_fault g c = record { later = omega arith; cause = λ e. absurd (of_no_disk c.in-Err.stop (c.in-Err.ensures).stop e); calm = λ n. refl }

pub execute_line-requires-clause-fits : goal.execute_line-requires-clause-fits
execute_line-requires-clause-fits g c κs held =
    let line = c.in-Ok.line in
    subst (λ (n : ℕ). LineFits n line.session line.call) c.session_count.ensures.count (c.in-Ok.ensures).fits

pub returns-clause-runs : goal.returns-clause-runs
returns-clause-runs g c o xs start seen run was =
    let few : c.args.number < 2 ^ 40 = (c.in-Ok.ensures).few in
    (c.execute_line.ensures.runs o xs (c.args.number - 1) start (g.S.Source.feed c.next_call.new.source) seen c.next_call.new.reader (omega arith) run ((c.in-Ok.ensures).read start seen was)).step

pub returns-clause-next : goal.returns-clause-next
returns-clause-next g c not_sink works = c.execute_line.ensures.next (running_goes c.execute_line.result c.execute_line.ensures.stops not_sink works)

pub returns-clause-cause_read_fault : goal.returns-clause-cause_read_fault
returns-clause-cause_read_fault g c =
    let faults = g.S.Source.faults in
    no_cause (faults c.args.source.now) (faults c.next_call.new.source) _ (c.next_call.ensures.cause_read_fault.calm (ok_no_err c.next_call.result c.in-Ok.line ReadFault c.in-Ok.is)) (running_no_read c.execute_line.result c.execute_line.ensures.stops)
