use Rattle.std.proofs.Common.{◌≡◌, ◌≤◌, ◌++◌, ℕ, List, [], refl, sym, ap, ◌∙◌, subst, arith, append-nil}
use Rattle.lean_disk.specs.Faults.{HasCause}
use Rattle.buffered_engine.specs.States.{InRun, memory_in}
use Rattle.buffered_engine.specs.core_calls.Fronts.{Done, front}
use Rattle.buffered_engine.specs.engine_front.Fronts.{events_in}
use Rattle.buffered_engine.specs.lean_edge.declared.sink.Put.{Put}
use Rattle.map_model.specs.Journals.{Name}
use Rattle.script_run.specs.Runs.{Standing}
use Rattle.script_run.specs.declared.stop.Stop.TheVariants as stops
use Rattle.workload_run.specs.Makes.{MakeRuns}
use Rattle.lean_shell.specs.Inside.Begins.{HasStarted}
use Rattle.lean_shell.specs.Inside.Makings.{MakesHere}
use Rattle.lean_shell.specs.Lines.{IsPut}
use Rattle.lean_shell.specs.Makes.{make_size}
use Rattle.lean_shell.specs.Runs.{first_line}
use Rattle.lean_shell.proofs.MakeLemmas.{cut_makes, disk_stop, lines_ran, no_cut, refused_makes, run_makes, stops_so}
use Rattle.lean_shell.proofs.Runs.ClosedLemmas.{closed_by}
use Rattle.lean_shell.proofs.Runs.LastLemmas.{disk_cause, put_not_done, write_blame}
use Rattle.lean_shell.proofs.Runs.OpeningLemmas.{counts, from, started}
use Rattle.lean_shell.proofs.make.execute.Given.{Over}
use Rattle.lean_shell.proofs.make.execute.Goals as goal

-- ## A disk that was not opened

pub returns-in-Err-clause-ends : goal.returns-in-Err-clause-ends
returns-in-Err-clause-ends g c =
    let s0 = g.D.Disk.story c.args.disk in
    let u = c.in-Err.field-0 in
    let k = c.in-Err.ensures.keeps in
    refused_makes c.args.workload c.laws.ensures.notice c.laws.ensures.tail c.refuse-status.result.status s0 (g.D.Disk.story u.disk) (g.D.Disk.story c.refuse-status.result.disk) ((g.met.D.Disk g.world.𝓛 g.world.𝓜 g.world.𝓡 ((λ s x. x), (λ x. x), (λ x. x), (λ x. x))).lawful u.disk) k.keeps k.others k.any_moment u.reason c.refuse-status.ensures.status c.in-Err.ensures.shown c.in-Err.ensures.left
    (g.K.Sink.held c.args.sink.now) (g.K.Sink.held c.refuse-status.new.sink) (g.K.Sink.faults c.args.sink.now) (g.K.Sink.faults c.refuse-status.new.sink) c.refuse-status.ensures.put (events_in c.refuse-status.result.front.view) c.refuse-status.ensures.front

-- ## A first line that was cut off

pub returns-in_default-clause-ends : goal.returns-in_default-clause-ends
returns-in_default-clause-ends g c =
    let s0 = g.D.Disk.story c.args.disk in
    let n = c.in-Ok.opened in
    let o = c.in-Ok.ensures.opened in
    let k = c.in-Ok.ensures.keeps in
    let sa = g.D.Disk.story n.engine.disk in
    subst (λ d. MakesHere c.args.workload _ 5 (events_in c.no_events.result.view) s0 (g.D.Disk.story d) (g.K.Sink.held c.args.sink.now) (g.K.Sink.held c.put_opened.new.sink) (g.K.Sink.faults c.args.sink.now) (g.K.Sink.faults c.put_opened.new.sink)) (sym c.disk_of.ensures)
    (cut_makes c.args.workload c.laws.ensures.notice c.laws.ensures.tail s0 sa (g.D.Disk.story c.put_opened.new.engine.disk) ((g.met.D.Disk g.world.𝓛 g.world.𝓜 g.world.𝓡 ((λ s x. x), (λ x. x), (λ x. x), (λ x. x))).lawful n.engine.disk) k.keeps k.any_moment
    (counts make_size s0 sa n.engine n.generation n.winners n.undone o) c.put_opened.ensures.fits (g.K.Sink.held c.args.sink.now) (g.K.Sink.held c.put_opened.new.sink) c.put_opened.result c.put_opened.ensures.put k.others o.opening
    (from make_size s0 sa n.engine n.generation n.winners n.undone o)
    (g.K.Sink.faults c.args.sink.now) (g.K.Sink.faults c.put_opened.new.sink) (c.put_opened.ensures.cause.cause (put_not_done c.put_opened.result c.in_default.not-Done)) (events_in c.no_events.result.view) c.no_events.ensures)

pub returns-in_default-clause-cause_write_fault : goal.returns-in_default-clause-cause_write_fault
returns-in_default-clause-cause_write_fault g c =
    record { later = c.put_opened.ensures.cause.later; cause = λ _. c.put_opened.ensures.cause.cause (put_not_done c.put_opened.result c.in_default.not-Done) }

pub returns-in_default-clause-cause_disk_fault : goal.returns-in_default-clause-cause_disk_fault
returns-in_default-clause-cause_disk_fault g c =
    let faults = g.D.Disk.faults in
    let same : faults c.disk_of.result ≡ faults c.args.disk = ap faults c.disk_of.ensures ∙ (c.put_opened.ensures.same.2 ∙ c.in-Ok.ensures.no_fault) in
    record { later = subst (λ (n : ℕ). faults c.args.disk ≤ n) (sym same) (omega arith); cause = λ e. absurd (omega (arith, e)); calm = λ _. same }

-- ## Lines that ran

pub returns-clause-ends : goal.returns-clause-ends
returns-clause-ends g c =
    let s0 = g.D.Disk.story c.args.disk in
    let n = c.in-Ok.opened in
    let o = c.in-Ok.ensures.opened in
    let k = c.in-Ok.ensures.keeps in
    let sa = g.D.Disk.story n.engine.disk in
    let e1 = c.put_opened.new.engine in
    let e2 = c.make_lines-engine.result.engine in
    let e3 = c.put_last.new.engine in
    let law = (g.met.D.Disk g.world.𝓛 g.world.𝓜 g.world.𝓡 ((λ s x. x), (λ x. x), (λ x. x), (λ x. x))).lawful in
    let counted = counts make_size s0 sa n.engine n.generation n.winners n.undone o in
    let made = c.make_lines-engine.result.made in
    let stop = c.stop_of-stop.result in
    let In : List Done → List Name → Type 0 = λ xs names. InRun e2 o.opening xs names in
    let runs =
    subst (λ m. MakeRuns c.args.workload.number c.args.workload.count made (Standing In (events_in c.make_lines-engine.new.events.view)) m 1 o.opening (memory_in e1) (memory_in e2) (g.D.Disk.story e1.disk) (g.D.Disk.story e2.disk)) (c.put_opened.ensures.sizes.0 ∙ sym o.in_run.workers)
    (subst (λ m. MakeRuns c.args.workload.number c.args.workload.count made (Standing In (events_in c.make_lines-engine.new.events.view)) e1.sessions m o.opening (memory_in e1) (memory_in e2) (g.D.Disk.story e1.disk) (g.D.Disk.story e2.disk)) (c.put_opened.ensures.sizes.1 ∙ o.group)
    (c.make_lines-engine.ensures.runs o.opening (c.put_opened.ensures.in_run o.opening [] [] o.in_run))) in
    let r = lines_ran c.args.workload (Standing In (events_in c.make_lines-engine.new.events.view)) o.opening (memory_in e1) (memory_in e2) (g.D.Disk.story e1.disk) (g.D.Disk.story e2.disk) made stop c.stop_of-stop.ensures c.make_lines-engine.ensures.stops runs in
    subst (λ d. MakesHere c.args.workload c.ok.result c.ended.result (events_in c.all_events-front.result.view) s0 (g.D.Disk.story d) (g.K.Sink.held c.args.sink.now) (g.K.Sink.held c.put_last.new.sink) (g.K.Sink.faults c.args.sink.now) (g.K.Sink.faults c.put_last.new.sink)) (sym c.disk_of-2.ensures)
    (subst (λ m. MakesHere c.args.workload m c.ended.result (events_in c.all_events-front.result.view) s0 (g.D.Disk.story e3.disk) (g.K.Sink.held c.args.sink.now) (g.K.Sink.held c.put_last.new.sink) (g.K.Sink.faults c.args.sink.now) (g.K.Sink.faults c.put_last.new.sink)) (sym c.ok.ensures.value)
    (run_makes c.laws.ensures c.args.workload s0 sa (g.D.Disk.story e1.disk) (g.D.Disk.story e2.disk) (g.D.Disk.story e3.disk) (law n.engine.disk) (law e2.disk) (law e3.disk) o.opening (memory_in e1) (memory_in e2) counted
    (subst (λ m. HasStarted make_size s0 sa o.opening m counted) (sym c.put_opened.ensures.same.0) (started make_size s0 sa n.engine n.generation n.winners n.undone o)) k.keeps k.any_moment c.put_opened.ensures.fits
    (g.K.Sink.held c.args.sink.now) (g.K.Sink.held c.put_opened.new.sink) (g.K.Sink.held c.put_last.new.sink)
    (subst (λ (a : Put). IsPut (first_line counted) a (g.K.Sink.held c.args.sink.now) (g.K.Sink.held c.put_opened.new.sink) sa (g.D.Disk.story e1.disk)) c.in-Done.is c.put_opened.ensures.put)
    made (Standing In (events_in c.make_lines-engine.new.events.view)) stop r
    (closed_by (Standing In (events_in c.make_lines-engine.new.events.view)) e2.next (λ xs names run. (c.told.ensures.told o.opening xs names run).1) o.opening stop r.ran.newer r.stands (λ not_cut works. c.make_lines-engine.ensures.next (r.goes works)))
    (events_in c.all_events-front.result.view) (c.all_events-front.ensures o.opening (r.ran.newer ++ []) r.stands ∙ ap (λ (xs : List Done). front xs) (append-nil r.ran.newer))
    (g.K.Sink.faults c.args.sink.now) (g.K.Sink.faults c.put_opened.new.sink) (g.K.Sink.faults c.put_last.new.sink)
    (no_cut stop (g.K.Sink.faults c.args.sink.now) (g.K.Sink.faults c.put_opened.new.sink) c.put_opened.result r.not_cut c.in-Done.is c.put_opened.ensures.cause)
    c.put_last.ensures.put c.ended.result c.ended.ensures k.others))

pub returns-clause-cause_write_fault : goal.returns-clause-cause_write_fault
returns-clause-cause_write_fault g c =
    write_blame (g.K.Sink.faults c.args.sink.now) (g.K.Sink.faults c.put_opened.new.sink) (g.K.Sink.faults c.put_last.new.sink) c.stop_of-stop.result c.ended.result c.ended.ensures
    (no_cut c.stop_of-stop.result (g.K.Sink.faults c.args.sink.now) (g.K.Sink.faults c.put_opened.new.sink) c.put_opened.result (stops_so c.make_lines-engine.result.made c.stop_of-stop.result c.stop_of-stop.ensures c.make_lines-engine.ensures.stops) c.in-Done.is c.put_opened.ensures.cause) c.put_last.ensures.later

pub returns-clause-cause_disk_fault : goal.returns-clause-cause_disk_fault
returns-clause-cause_disk_fault g c =
    let faults = g.D.Disk.faults in
    disk_cause (faults c.args.disk) (faults c.put_opened.new.engine.disk) (faults c.make_lines-engine.result.engine.disk) (faults c.disk_of-2.result) c.stop_of-stop.result c.ended.result c.ended.ensures
    (c.put_opened.ensures.same.2 ∙ c.in-Ok.ensures.no_fault) (ap faults c.disk_of-2.ensures ∙ c.put_last.ensures.same.2)
    (disk_stop c.make_lines-engine.result.made c.stop_of-stop.result c.stop_of-stop.ensures (faults c.put_opened.new.engine.disk) (faults c.make_lines-engine.result.engine.disk) c.make_lines-engine.ensures.cause_disk_fault)
