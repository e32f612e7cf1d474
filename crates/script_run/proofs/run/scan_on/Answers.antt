use Rattle.std.proofs.Common.{◌≡◌, ◌∷◌, ◌∙◌, Some, None, sym, ap, arith}
use Rattle.call_parts.specs.core_calls.Deeds.{asked}
use Rattle.call_parts.specs.core_calls.Durables.{durables, moments}
use Rattle.engine_front.specs.Turns.{behind_durables}
use Rattle.script_run.specs.declared.stop.Stop.TheVariants.{DiskFault, WriteFault}
use Rattle.script_run.proofs.FitLemmas.{behind_pair, open_behind, pair_open, scan_fits}
use Rattle.script_run.proofs.StepLemmas.{answered_to, further_answer, further_fault, scan_asked, scan_due}
use Rattle.script_run.proofs.StopLemmas.{engine_runs, no_cause, ok_no_err, putting_no_err, putting_runs}
use Rattle.engine_front.specs.Fronts.{events_in}
use Rattle.script_run.specs.Runs.{Standing}
use Rattle.script_run.proofs.run.scan_on.Goals as goal

pub returns-in-Err-clause-ends : goal.returns-in-Err-clause-ends
returns-in-Err-clause-ends g c o y earlier run session =
    let E = g.E.Calls in
    let D = g.D.Disk in
    let e0 = c.args.engine.now in
    let e1 = c.scan_engine.new.engine in
    let told = c.told.ensures.told o (y ∷ earlier) (durables o (moments (y ∷ earlier))) run in
    further_fault c.laws.ensures (E.group e0) o y earlier (E.memory e0) (g.K.Sink.held c.args.sink.now) (D.story (E.disk e0)) c.told.ensures.lawful (Standing (E.in_run e1 o) (events_in c.scan_engine.new.events.view)) (record { session = y.outcome.session; call = asked y.outcome.deed })
    (scan_due (E.next e0) y earlier c.requires.next told.1) (D.story (E.disk e1)) c.in-Err.stop (E.memory e1) (c.in-Err.ensures).stops ((c.in-Err.ensures).fails o y earlier (durables o (moments (y ∷ earlier))) run) ((c.in-Err.ensures).stood o (y ∷ earlier) (durables o (moments (y ∷ earlier))) run)

pub returns-in-Err-clause-stops : goal.returns-in-Err-clause-stops
returns-in-Err-clause-stops g c = engine_runs c.in-Err.stop (c.in-Err.ensures).stops

pub returns-in-Some-clause-ends : goal.returns-in-Some-clause-ends
returns-in-Some-clause-ends g c o y earlier run session =
    let E = g.E.Calls in
    let D = g.D.Disk in
    let e0 = c.args.engine.now in
    let e1 = c.scan_engine.new.engine in
    let e2 = c.put_answer.new.engine in
    let a = c.in-Ok.answer in
    let told = c.told.ensures.told o (y ∷ earlier) (durables o (moments (y ∷ earlier))) run in
    let scan = scan_asked (E.next e0) y earlier c.requires.next told.1 in
    let does = (c.in-Ok.ensures).does o y earlier (durables o (moments (y ∷ earlier))) run in
    let x = does.0.done in
    let fits = scan_fits c.args.session scan.0 scan.1 a x.outcome.deed (does.0.asked_is ∙ scan.2) does.0.answer_is (omega arith) (c.in-Ok.ensures).fits in
    let says = (c.in-Some.ensures).says o (y ∷ earlier) x does.1 (does.0.session ∙ session) does.0.answer_is fits in
    further_answer c.laws.ensures (E.group e0) o y earlier (E.memory e0) (g.K.Sink.held c.args.sink.now) (D.story (E.disk e0)) c.told.ensures.lawful (Standing (E.in_run e2 o) (events_in c.scan_engine.new.events.view)) (record { session = y.outcome.session; call = asked y.outcome.deed })
    (scan_due (E.next e0) y earlier c.requires.next told.1) (D.story (E.disk e1)) y.outcome.session a (E.memory e1) (E.memory e2) does.0 (g.K.Sink.held c.put_answer.new.sink) (D.story (E.disk e2)) c.put_answer.ensures.same.0
    (Some c.in-Some.stop) (c.in-Some.ensures).stops says.0 says.1

pub returns-in-Some-clause-stops : goal.returns-in-Some-clause-stops
returns-in-Some-clause-stops g c = putting_runs (Some c.in-Some.stop) (c.in-Some.ensures).stops

pub returns-in-Some-clause-cause_disk_fault : goal.returns-in-Some-clause-cause_disk_fault
returns-in-Some-clause-cause_disk_fault g c =
    let faults = g.D.Disk.faults in
    let disk = g.E.Calls.disk in
    no_cause (faults (disk c.args.engine.now)) (faults (disk c.put_answer.new.engine)) _
    (c.put_answer.ensures.same.2 ∙ c.scan_engine.ensures.cause.calm (ok_no_err c.scan_engine.result c.in-Ok.answer DiskFault c.in-Ok.is)) (putting_no_err c.in-Some.stop (c.in-Some.ensures).stops)

pub returns-clause-runs : goal.returns-clause-runs
returns-clause-runs g c o y earlier run session =
    let E = g.E.Calls in
    let D = g.D.Disk in
    let e0 = c.args.engine.now in
    let e1 = c.scan_engine.new.engine in
    let e2 = c.put_answer.new.engine in
    let a = c.in-Ok.answer in
    let told = c.told.ensures.told o (y ∷ earlier) (durables o (moments (y ∷ earlier))) run in
    let scan = scan_asked (E.next e0) y earlier c.requires.next told.1 in
    let does = (c.in-Ok.ensures).does o y earlier (durables o (moments (y ∷ earlier))) run in
    let x = does.0.done in
    let fits = scan_fits c.args.session scan.0 scan.1 a x.outcome.deed (does.0.asked_is ∙ scan.2) does.0.answer_is (omega arith) (c.in-Ok.ensures).fits in
    let says = (c.in_default.ensures).says o (y ∷ earlier) x does.1 (does.0.session ∙ session) does.0.answer_is fits in
    answered_to c.laws.ensures (E.group e0) o y earlier (E.memory e0) (g.K.Sink.held c.args.sink.now) (D.story (E.disk e0)) c.told.ensures.lawful (Standing (E.in_run e2 o) (events_in c.scan_engine.new.events.view)) (record { session = y.outcome.session; call = asked y.outcome.deed })
    (scan_due (E.next e0) y earlier c.requires.next told.1) (D.story (E.disk e1)) y.outcome.session a (E.memory e1) (E.memory e2) does.0 (g.K.Sink.held c.put_answer.new.sink) (D.story (E.disk e2)) c.put_answer.ensures.same.0
    says.0 says.1 c.args.session (does.0.session ∙ session)

pub returns-clause-next : goal.returns-clause-next
returns-clause-next g c = c.put_answer.ensures.next c.in_default.is ∙ ap behind_durables (c.in-Ok.ensures).next

pub returns-clause-fewer : goal.returns-clause-fewer
returns-clause-fewer g c pair =
    let E = g.E.Calls in
    let a = c.in-Ok.answer in
    let step = (c.in-Ok.ensures).fewer ((c.in-Ok.ensures).next ∙ (sym (open_behind a (pair_open a pair)) ∙ behind_pair a pair)) in
    let same : E.pairs_left c.put_answer.new.engine ≡ E.pairs_left c.scan_engine.new.engine = c.put_answer.ensures.pairs (pair_open a pair) in
    omega (arith, step, same)

pub returns-clause-cause_write_fault : goal.returns-clause-cause_write_fault
returns-clause-cause_write_fault g c =
    let faults = g.K.Sink.faults in
    let calm : faults c.put_answer.new.sink ≡ faults c.args.sink.now = c.put_answer.ensures.cause_write_fault.calm (λ e. let clash : None ≡ Some WriteFault = sym (c.in_default).is ∙ e in cc) in
    no_cause (faults c.args.sink.now) (faults c.put_answer.new.sink) _ calm (λ e. cc)

pub returns-clause-cause_disk_fault : goal.returns-clause-cause_disk_fault
returns-clause-cause_disk_fault g c =
    let faults = g.D.Disk.faults in
    let disk = g.E.Calls.disk in
    no_cause (faults (disk c.args.engine.now)) (faults (disk c.put_answer.new.engine)) _
    (c.put_answer.ensures.same.2 ∙ c.scan_engine.ensures.cause.calm (ok_no_err c.scan_engine.result c.in-Ok.answer DiskFault c.in-Ok.is)) (λ e. cc)
