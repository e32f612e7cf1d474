use Rattle.std.proofs.Common.{◌≡◌, ◌∷◌, ◌∙◌, ℕ, suc, Some, None, refl, sym, ap, subst, arith}
use Rattle.call_parts.specs.core_calls.Durables.{durables, moments}
use Rattle.engine_front.specs.Turns.{behind_durables}
use Rattle.script_run.specs.Inside.{LineRuns}
use Rattle.script_run.specs.declared.stop.Stop.TheVariants.{DiskFault, WriteFault}
use Rattle.script_run.proofs.FitLemmas.{answer_fits, asked_of}
use Rattle.script_run.proofs.StepLemmas.{cut_step, fault_step, line_step}
use Rattle.script_run.proofs.StopLemmas.{cause_behind, engine_runs, no_cause, ok_no_err, putting_no_disk, putting_runs}
use Rattle.engine_front.specs.Fronts.{events_in}
use Rattle.script_run.specs.Runs.{Standing}
use Rattle.script_run.proofs.run.execute_line.Goals as goal

pub call_engine-requires-clause-asked : goal.call_engine-requires-clause-asked
call_engine-requires-clause-asked g c κs held = asked_of (g.E.Calls.sessions c.args.engine.now) c.args.session c.args.call.now c.requires.fits

pub returns-in-Err-clause-runs : goal.returns-in-Err-clause-runs
returns-in-Err-clause-runs g c o xs before start feed seen reader few run reading =
    let E = g.E.Calls in
    let D = g.D.Disk in
    let e0 = c.args.engine.now in
    let e1 = c.call_engine.new.engine in
    fault_step c.laws.ensures (E.sessions e0) (E.group e0) o xs before (suc before) refl start feed seen reader (E.memory e0) (g.K.Sink.held c.args.sink.now) (D.story (E.disk e0)) c.told.ensures.lawful (Standing (E.in_run e1 o) (events_in c.call_engine.new.events.view))
    c.args.session c.args.call.now c.requires.fits (D.story (E.disk e1)) reading c.in-Err.stop (E.memory e1) (omega arith)
    (c.in-Err.ensures).stops ((c.in-Err.ensures).fails o xs (durables o (moments xs)) run) ((c.in-Err.ensures).stood o xs (durables o (moments xs)) run)

pub returns-in-Err-clause-stops : goal.returns-in-Err-clause-stops
returns-in-Err-clause-stops g c = engine_runs c.in-Err.stop (c.in-Err.ensures).stops

pub returns-in-Some-clause-runs : goal.returns-in-Some-clause-runs
returns-in-Some-clause-runs g c o xs before start feed seen reader few run reading =
    let E = g.E.Calls in
    let D = g.D.Disk in
    let e0 = c.args.engine.now in
    let e1 = c.call_engine.new.engine in
    let e2 = c.put_answer.new.engine in
    let a = c.in-Ok.answer in
    let fits = c.requires.fits in
    let does = (c.in-Ok.ensures).does o xs (durables o (moments xs)) run in
    let x = does.0.done in
    let says = (c.in-Some.ensures).says o xs x does.1 does.0.session does.0.answer_is
    (answer_fits (E.sessions e0) c.args.session c.args.call.now a x.outcome.deed (asked_of (E.sessions e0) c.args.session c.args.call.now fits) does.0.asked_is does.0.answer_is (omega arith) (c.in-Ok.ensures).fits) in
    cut_step c.laws.ensures (E.sessions e0) (E.group e0) o xs before (suc before) refl start feed seen reader (E.memory e0) (g.K.Sink.held c.args.sink.now) (D.story (E.disk e0)) c.told.ensures.lawful (Standing (E.in_run e2 o) (events_in c.call_engine.new.events.view))
    c.args.session c.args.call.now fits (D.story (E.disk e1)) reading a (E.memory e1) (E.memory e2) does.0 few (g.K.Sink.held c.put_answer.new.sink) (D.story (E.disk e2)) c.put_answer.ensures.same.0
    c.in-Some.stop (c.in-Some.ensures).stops says.0 says.1

pub returns-in-Some-clause-stops : goal.returns-in-Some-clause-stops
returns-in-Some-clause-stops g c = putting_runs (Some c.in-Some.stop) (c.in-Some.ensures).stops

pub returns-in-Some-clause-cause_disk_fault : goal.returns-in-Some-clause-cause_disk_fault
returns-in-Some-clause-cause_disk_fault g c =
    let faults = g.D.Disk.faults in
    let disk = g.E.Calls.disk in
    no_cause (faults (disk c.args.engine.now)) (faults (disk c.put_answer.new.engine)) _ (c.put_answer.ensures.same.2 ∙ c.call_engine.ensures.cause.calm (ok_no_err c.call_engine.result c.in-Ok.answer DiskFault c.in-Ok.is))
    (putting_no_disk (Some c.in-Some.stop) (c.in-Some.ensures).stops)

pub finish_line-requires-clause-next : goal.finish_line-requires-clause-next
finish_line-requires-clause-next g c κs held = c.put_answer.ensures.next (c.in_default).is ∙ ap behind_durables (c.in-Ok.ensures).next

pub returns-clause-runs : goal.returns-clause-runs
returns-clause-runs g c o xs before start feed seen reader few run reading =
    let E = g.E.Calls in
    let D = g.D.Disk in
    let held = g.K.Sink.held in
    let e0 = c.args.engine.now in
    let e1 = c.call_engine.new.engine in
    let e2 = c.put_answer.new.engine in
    let e3 = c.finish_line.new.engine in
    let a = c.in-Ok.answer in
    let fits = c.requires.fits in
    let does = (c.in-Ok.ensures).does o xs (durables o (moments xs)) run in
    let x = does.0.done in
    let says = (c.in_default.ensures).says o xs x does.1 does.0.session does.0.answer_is
    (answer_fits (E.sessions e0) c.args.session c.args.call.now a x.outcome.deed (asked_of (E.sessions e0) c.args.session c.args.call.now fits) does.0.asked_is does.0.answer_is (omega arith) (c.in-Ok.ensures).fits) in
    let line_on = c.finish_line.ensures.runs o x xs says.1 (does.0.session, does.0.answer_is) in
    line_step c.laws.ensures (E.sessions e0) (E.group e0) o xs before (suc before) refl start feed seen reader (E.memory e0) (held c.args.sink.now) (D.story (E.disk e0)) c.told.ensures.lawful (Standing (E.in_run e3 o) (events_in c.finish_line.new.events.view))
    c.args.session c.args.call.now fits (D.story (E.disk e1)) reading a (E.memory e1) (E.memory e2) does.0 few (held c.put_answer.new.sink) (D.story (E.disk e2)) c.put_answer.ensures.same.0
    says.0 c.finish_line.result c.finish_line.ensures.stops (E.memory e3) (held c.finish_line.new.sink) (D.story (E.disk e3))
    (subst (λ (n : ℕ). LineRuns (Standing (E.in_run e3 o) (events_in c.finish_line.new.events.view)) c.finish_line.result n o (x ∷ xs) (E.memory e2) (E.memory e3) (held c.put_answer.new.sink) (held c.finish_line.new.sink) (D.story (E.disk e2)) (D.story (E.disk e3)))
    (c.put_answer.ensures.sizes.1 ∙ c.call_engine.ensures.sizes.1) line_on)

pub returns-clause-cause_write_fault : goal.returns-clause-cause_write_fault
returns-clause-cause_write_fault g c =
    let faults = g.K.Sink.faults in
    cause_behind (faults c.args.sink.now) (faults c.put_answer.new.sink) (faults c.finish_line.new.sink) _
    (c.put_answer.ensures.cause_write_fault.calm (λ e. let clash : None ≡ Some WriteFault = sym (c.in_default).is ∙ e in cc)) c.finish_line.ensures.cause_write_fault

pub returns-clause-cause_disk_fault : goal.returns-clause-cause_disk_fault
returns-clause-cause_disk_fault g c =
    let faults = g.D.Disk.faults in
    let disk = g.E.Calls.disk in
    cause_behind (faults (disk c.args.engine.now)) (faults (disk c.put_answer.new.engine)) (faults (disk c.finish_line.new.engine)) _
    (c.put_answer.ensures.same.2 ∙ c.call_engine.ensures.cause.calm (ok_no_err c.call_engine.result c.in-Ok.answer DiskFault c.in-Ok.is)) c.finish_line.ensures.cause_disk_fault
