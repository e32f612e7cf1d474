use Rattle.std.proofs.Common.{◌∷◌, ◌∙◌, refl, ap, arith}
use Rattle.call_parts.specs.core_calls.Durables.{durables, moments}
use Rattle.call_parts.specs.core_calls.Steps.{hindered_in}
use Rattle.engine_front.specs.Turns.{behind_durables}
use Rattle.script_run.specs.Inside.IsDueTo.{Abort}
use Rattle.script_run.specs.declared.stop.Stop.TheVariants.{DiskFault}
use Rattle.script_run.proofs.FitLemmas.{abort_behind, abort_fits, last_behind}
use Rattle.script_run.proofs.StepLemmas.{further_fault, last_answer, stopped_line}
use Rattle.script_run.proofs.StopLemmas.{no_cause, putting_no_disk, putting_runs, ok_no_err}
use Rattle.engine_front.specs.Fronts.{events_in}
use Rattle.script_run.specs.Runs.{Standing}
use Rattle.script_run.proofs.run.abort_hindered.Goals as goal

pub returns-in-Err-clause-runs : goal.returns-in-Err-clause-runs
returns-in-Err-clause-runs g c o y earlier call run hindered session =
    let E = g.E.Calls in
    let D = g.D.Disk in
    let held = g.K.Sink.held c.args.sink.now in
    let e0 = c.args.engine.now in
    let e1 = c.abort_engine.new.engine in
    stopped_line (Standing (E.in_run e1 o) (events_in c.abort_engine.new.events.view)) c.in-Err.stop (E.group e0) o (y ∷ earlier) (E.memory e0) (E.memory e1) held held (D.story (E.disk e0)) (D.story (E.disk e1))
    (further_fault c.laws.ensures (E.group e0) o y earlier (E.memory e0) held (D.story (E.disk e0)) c.told.ensures.lawful (Standing (E.in_run e1 o) (events_in c.abort_engine.new.events.view)) (record { session = y.outcome.session; call = call }) (Abort refl hindered) (D.story (E.disk e1))
    c.in-Err.stop (E.memory e1) (c.in-Err.ensures).stops ((c.in-Err.ensures).fails o y earlier (durables o (moments (y ∷ earlier))) run call hindered) ((c.in-Err.ensures).stood o (y ∷ earlier) (durables o (moments (y ∷ earlier))) run))

pub returns-clause-runs : goal.returns-clause-runs
returns-clause-runs g c o y earlier call run hindered session =
    let E = g.E.Calls in
    let D = g.D.Disk in
    let e0 = c.args.engine.now in
    let e1 = c.abort_engine.new.engine in
    let e2 = c.put_answer.new.engine in
    let put = c.put_answer.ensures in
    let a = c.in-Ok.answer in
    let does = (c.in-Ok.ensures).does o y earlier (durables o (moments (y ∷ earlier))) run call hindered in
    let x = does.0.done in
    let fits = abort_fits c.args.session call a x.outcome.deed (abort_behind (hindered_in y.outcome.deed) call y.outcome.session x.outcome hindered does.0.happens.tells.hindered) does.0.answer_is (omega arith) (c.in-Ok.ensures).fits in
    let says = put.says o (y ∷ earlier) x does.1 (does.0.session ∙ session) does.0.answer_is fits in
    last_answer c.laws.ensures (E.group e0) o y earlier (E.memory e0) (g.K.Sink.held c.args.sink.now) (D.story (E.disk e0)) c.told.ensures.lawful (Standing (E.in_run e2 o) (events_in c.abort_engine.new.events.view)) (record { session = y.outcome.session; call = call }) (Abort refl hindered) (D.story (E.disk e1))
    y.outcome.session a (E.memory e1) (E.memory e2) does.0 (g.K.Sink.held c.put_answer.new.sink) (D.story (E.disk e2)) put.same.0 (c.in-Ok.ensures).last c.put_answer.result put.stops says.0 says.1

pub returns-clause-stops : goal.returns-clause-stops
returns-clause-stops g c = putting_runs c.put_answer.result c.put_answer.ensures.stops

pub returns-clause-next : goal.returns-clause-next
returns-clause-next g c none = c.put_answer.ensures.next none ∙ (ap behind_durables (c.in-Ok.ensures).next ∙ last_behind c.in-Ok.answer (c.in-Ok.ensures).last)

pub returns-clause-cause_disk_fault : goal.returns-clause-cause_disk_fault
returns-clause-cause_disk_fault g c =
    let faults = g.D.Disk.faults in
    let disk = g.E.Calls.disk in
    no_cause (faults (disk c.args.engine.now)) (faults (disk c.put_answer.new.engine)) _
    (c.put_answer.ensures.same.2 ∙ c.abort_engine.ensures.cause.calm (ok_no_err c.abort_engine.result c.in-Ok.answer DiskFault c.in-Ok.is)) (putting_no_disk c.put_answer.result c.put_answer.ensures.stops)
