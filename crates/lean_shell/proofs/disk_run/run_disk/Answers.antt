use Rattle.std.proofs.Common.{◌≡◌, ◌≤◌, ◌++◌, ℕ, List, IsTrue, [], Some, refl, sym, ap, ◌∙◌, subst, arith, append-nil}
use Rattle.buffered_engine.specs.lean_edge.declared.sink.Put.{Put}
use Rattle.buffered_engine.specs.lean_edge.Outside.{added}
use Rattle.buffered_engine.specs.recovery.Telling.{TellsAll}
use Rattle.buffered_engine.specs.States.{InRun, memory_in}
use Rattle.buffered_engine.specs.core_calls.Fronts.{Done, front}
use Rattle.buffered_engine.specs.engine_front.Fronts.{events_in}
use Rattle.lean_shell.specs.Ends.{RunEnds}
use Rattle.lean_shell.specs.Headline.{Headline}
use Rattle.lean_shell.specs.Inside.Assembled.{RunSays}
use Rattle.lean_shell.specs.Inside.Begins.{HasStarted}
use Rattle.script_run.specs.Runs.{ScriptRuns, Standing}
use Rattle.lean_shell.specs.Lines.{IsPut}
use Rattle.lean_shell.specs.Runs.{IsClosed, first_line}
use Rattle.lean_shell.proofs.Runs.EndLemmas.{cut_ends, cut_headline, refused_ends, refused_headline}
use Rattle.lean_shell.proofs.Runs.LastLemmas.{cause_from, disk_cause, put_not_done, read_cause, write_blame}
use Rattle.lean_shell.proofs.Runs.MomentLemmas.{unmoved}
use Rattle.lean_shell.proofs.Runs.OpeningLemmas.{counts, from, started}
use Rattle.lean_shell.proofs.Runs.ClosedLemmas.{closed_by}
use Rattle.lean_shell.proofs.Runs.RunLemmas.{every_run}
use Rattle.buffered_engine.specs.recovery.declared.opening.Unrecovered.TheVariants.{Memory}
use Rattle.lean_shell.proofs.disk_run.run_disk.Given.{Over}
use Rattle.lean_shell.proofs.disk_run.run_disk.Goals as goal

-- ## A disk that was not opened

pub returns-in_default-clause-ends : goal.returns-in_default-clause-ends
returns-in_default-clause-ends g c =
    let s0 = g.D.Disk.story c.args.disk in
    let law = ((g.met.D.Disk g.world.𝓛 g.world.𝓜 g.world.𝓡 ((λ s x. x), (λ x. x), (λ x. x), (λ x. x))).lawful c.args.disk) in
    refused_ends c.args.size c.laws.ensures.notice c.laws.ensures.tail c.refuse.result.status s0 s0 (g.D.Disk.story c.refuse.result.disk) law (record { notes = refl; tells = λ a. refl; areas = refl; counts = refl; later = omega arith }) (λ a lt. refl) (λ m tells clean. unmoved m s0 law) (g.S.Source.feed c.args.source.now) Memory c.refuse.ensures.status tt (λ refused a. absurd refused)
    (g.K.Sink.held c.args.sink.now) (g.K.Sink.held c.refuse.new.sink) (g.K.Sink.faults c.args.sink.now) (g.K.Sink.faults c.refuse.new.sink) c.refuse.ensures.put (events_in c.refuse.result.front.view) c.refuse.ensures.front

pub returns-in_default-clause-headline : goal.returns-in_default-clause-headline
returns-in_default-clause-headline g c tells =
    let s0 = g.D.Disk.story c.args.disk in
    let law = ((g.met.D.Disk g.world.𝓛 g.world.𝓜 g.world.𝓡 ((λ s x. x), (λ x. x), (λ x. x), (λ x. x))).lawful c.args.disk) in
    refused_headline c.args.size c.laws.ensures.notice c.laws.ensures.tail s0 s0 (g.D.Disk.story c.refuse.result.disk) law (record { notes = refl; tells = λ a. refl; areas = refl; counts = refl; later = omega arith }) (λ m tells clean. unmoved m s0 law) (g.S.Source.feed c.args.source.now) Memory
    (g.K.Sink.held c.args.sink.now) (g.K.Sink.held c.refuse.new.sink) (g.K.Sink.faults c.args.sink.now) (g.K.Sink.faults c.refuse.new.sink) c.refuse.ensures.put

pub returns-in-Err-clause-ends : goal.returns-in-Err-clause-ends
returns-in-Err-clause-ends g c =
    let s0 = g.D.Disk.story c.args.disk in
    let u = c.in-Err.field-0 in
    let k = c.in-Err.ensures.keeps in
    refused_ends c.args.size c.laws.ensures.notice c.laws.ensures.tail c.refuse-in-Err.result.status s0 (g.D.Disk.story u.disk) (g.D.Disk.story c.refuse-in-Err.result.disk) ((g.met.D.Disk g.world.𝓛 g.world.𝓜 g.world.𝓡 ((λ s x. x), (λ x. x), (λ x. x), (λ x. x))).lawful u.disk) k.keeps k.others k.any_moment (g.S.Source.feed c.args.source.now) u.reason c.refuse-in-Err.ensures.status c.in-Err.ensures.shown c.in-Err.ensures.left
    (g.K.Sink.held c.args.sink.now) (g.K.Sink.held c.refuse-in-Err.new.sink) (g.K.Sink.faults c.args.sink.now) (g.K.Sink.faults c.refuse-in-Err.new.sink) c.refuse-in-Err.ensures.put (events_in c.refuse-in-Err.result.front.view) c.refuse-in-Err.ensures.front

pub returns-in-Err-clause-headline : goal.returns-in-Err-clause-headline
returns-in-Err-clause-headline g c tells =
    let s0 = g.D.Disk.story c.args.disk in
    let u = c.in-Err.field-0 in
    let k = c.in-Err.ensures.keeps in
    refused_headline c.args.size c.laws.ensures.notice c.laws.ensures.tail s0 (g.D.Disk.story u.disk) (g.D.Disk.story c.refuse-in-Err.result.disk) ((g.met.D.Disk g.world.𝓛 g.world.𝓜 g.world.𝓡 ((λ s x. x), (λ x. x), (λ x. x), (λ x. x))).lawful u.disk) k.keeps k.any_moment (g.S.Source.feed c.args.source.now) u.reason
    (g.K.Sink.held c.args.sink.now) (g.K.Sink.held c.refuse-in-Err.new.sink) (g.K.Sink.faults c.args.sink.now) (g.K.Sink.faults c.refuse-in-Err.new.sink) c.refuse-in-Err.ensures.put

-- ## A first line that was cut off

pub returns-in_default-put_opened-clause-ends : goal.returns-in_default-put_opened-clause-ends
returns-in_default-put_opened-clause-ends g c =
    let s0 = g.D.Disk.story c.args.disk in
    let n = c.in-Ok-open.opened in
    let o = c.in-Ok-open.ensures.opened in
    let k = c.in-Ok-open.ensures.keeps in
    let sa = g.D.Disk.story n.engine.disk in
    subst (λ d. RunEnds c.args.size 5 (events_in c.no_events.result.view) s0 (g.D.Disk.story d) (g.S.Source.feed c.args.source.now) (g.S.Source.feed c.args.source.now) (g.K.Sink.held c.args.sink.now) (g.K.Sink.held c.put_opened.new.sink) (g.K.Sink.faults c.args.sink.now) (g.K.Sink.faults c.put_opened.new.sink)) (sym c.disk_of.ensures)
    (cut_ends c.args.size c.laws.ensures.notice s0 sa (g.D.Disk.story c.put_opened.new.engine.disk) ((g.met.D.Disk g.world.𝓛 g.world.𝓜 g.world.𝓡 ((λ s x. x), (λ x. x), (λ x. x), (λ x. x))).lawful n.engine.disk) k.keeps k.any_moment (g.S.Source.feed c.args.source.now)
    (counts c.args.size s0 sa n.engine n.generation n.winners n.undone o) c.put_opened.ensures.fits (g.K.Sink.held c.args.sink.now) (g.K.Sink.held c.put_opened.new.sink) c.put_opened.result c.put_opened.ensures.put c.laws.ensures.tail k.others o.opening
    (from c.args.size s0 sa n.engine n.generation n.winners n.undone o)
    (g.K.Sink.faults c.args.sink.now) (g.K.Sink.faults c.put_opened.new.sink) (c.put_opened.ensures.cause.cause (put_not_done c.put_opened.result c.in_default-put_opened.not-Done)) (events_in c.no_events.result.view) c.no_events.ensures)

pub returns-in_default-put_opened-clause-headline : goal.returns-in_default-put_opened-clause-headline
returns-in_default-put_opened-clause-headline g c tells =
    let s0 = g.D.Disk.story c.args.disk in
    let n = c.in-Ok-open.opened in
    let o = c.in-Ok-open.ensures.opened in
    let k = c.in-Ok-open.ensures.keeps in
    let sa = g.D.Disk.story n.engine.disk in
    subst (λ d. IsTrue (g.K.Sink.held c.args.sink.now).tells → TellsAll c.args.size.sessions s0 → Headline s0 (g.D.Disk.story d) (g.S.Source.feed c.args.source.now).left (added (g.K.Sink.held c.args.sink.now) (g.K.Sink.held c.put_opened.new.sink))) (sym c.disk_of.ensures)
    (cut_headline c.args.size c.laws.ensures.notice s0 sa (g.D.Disk.story c.put_opened.new.engine.disk) ((g.met.D.Disk g.world.𝓛 g.world.𝓜 g.world.𝓡 ((λ s x. x), (λ x. x), (λ x. x), (λ x. x))).lawful n.engine.disk) k.keeps k.any_moment (g.S.Source.feed c.args.source.now)
    (counts c.args.size s0 sa n.engine n.generation n.winners n.undone o) c.put_opened.ensures.fits (g.K.Sink.held c.args.sink.now) (g.K.Sink.held c.put_opened.new.sink) c.put_opened.result c.put_opened.ensures.put c.laws.ensures.tail)

pub returns-in_default-put_opened-clause-cause_write_fault : goal.returns-in_default-put_opened-clause-cause_write_fault
returns-in_default-put_opened-clause-cause_write_fault g c =
    record { later = c.put_opened.ensures.cause.later; cause = λ _. c.put_opened.ensures.cause.cause (put_not_done c.put_opened.result c.in_default-put_opened.not-Done) }

pub returns-in_default-put_opened-clause-cause_disk_fault : goal.returns-in_default-put_opened-clause-cause_disk_fault
returns-in_default-put_opened-clause-cause_disk_fault g c =
    let faults = g.D.Disk.faults in
    let same : faults c.disk_of.result ≡ faults c.args.disk = ap faults c.disk_of.ensures ∙ (c.put_opened.ensures.same.2 ∙ c.in-Ok-open.ensures.no_fault) in
    record { later = subst (λ (n : ℕ). faults c.args.disk ≤ n) (sym same) (omega arith); cause = λ e. absurd (omega (arith, e)); calm = λ _. same }

-- ## A run

says : (g : Over) (c : goal.After-drop-reader-inside-2 g)
    → RunSays c.args.size (g.D.Disk.story c.args.disk) (g.D.Disk.story c.in-Ok-open.opened.engine.disk) (g.D.Disk.story c.put_last.new.engine.disk) (g.S.Source.feed c.args.source.now) (g.S.Source.feed c.run_script-stop.new.source) (g.K.Sink.held c.args.sink.now) (g.K.Sink.held c.put_last.new.sink) c.run_script-stop.result (g.K.Sink.faults c.run_script-stop.new.sink) (g.K.Sink.faults c.put_last.new.sink) (events_in c.all_events-front.result.view)
says g c =
    let s0 = g.D.Disk.story c.args.disk in
    let n = c.in-Ok-open.opened in
    let o = c.in-Ok-open.ensures.opened in
    let k = c.in-Ok-open.ensures.keeps in
    let sa = g.D.Disk.story n.engine.disk in
    let feed0 = g.S.Source.feed c.args.source.now in
    let counted = counts c.args.size s0 sa n.engine n.generation n.winners n.undone o in
    let whole =
    subst (λ n. (r : ScriptRuns (Some c.run_script-stop.result) n c.args.size.group o.opening [] 0 feed0 [] (memory_in c.put_opened.new.engine) (memory_in c.run_script-stop.new.engine) c.run_script-stop.new.reader (g.S.Source.feed c.run_script-stop.new.source) (g.K.Sink.held c.put_opened.new.sink) (g.K.Sink.held c.run_script-stop.new.sink) (g.D.Disk.story c.put_opened.new.engine.disk) (g.D.Disk.story c.run_script-stop.new.engine.disk)) × IsClosed c.run_script-stop.result r.newer × (events_in c.all_events-front.result.view ≡ front r.newer)) (c.put_opened.ensures.sizes.0 ∙ sym o.in_run.workers)
    (subst (λ n. (r : ScriptRuns (Some c.run_script-stop.result) c.put_opened.new.engine.sessions n o.opening [] 0 feed0 [] (memory_in c.put_opened.new.engine) (memory_in c.run_script-stop.new.engine) c.run_script-stop.new.reader (g.S.Source.feed c.run_script-stop.new.source) (g.K.Sink.held c.put_opened.new.sink) (g.K.Sink.held c.run_script-stop.new.sink) (g.D.Disk.story c.put_opened.new.engine.disk) (g.D.Disk.story c.run_script-stop.new.engine.disk)) × IsClosed c.run_script-stop.result r.newer × (events_in c.all_events-front.result.view ≡ front r.newer)) (c.put_opened.ensures.sizes.1 ∙ o.group)
    (let there = (c.run_script-stop.ensures.runs o.opening [] feed0 [] (c.put_opened.ensures.in_run o.opening [] [] o.in_run) (c.in-Ok.ensures feed0)) in (there.0, closed_by (Standing (λ xs names. InRun c.run_script-stop.new.engine o.opening xs names) (events_in c.run_script-stop.new.events.view)) c.run_script-stop.new.engine.next (λ xs names run. (c.told.ensures.told o.opening xs names run).1) o.opening c.run_script-stop.result there.0.newer there.1 c.run_script-stop.ensures.next, c.all_events-front.ensures o.opening (there.0.newer ++ []) there.1 ∙ ap (λ (xs : List Done). front xs) (append-nil there.0.newer)))) in
    every_run c.laws.ensures
    s0 sa (g.D.Disk.story c.put_opened.new.engine.disk) (g.D.Disk.story c.run_script-stop.new.engine.disk) (g.D.Disk.story c.put_last.new.engine.disk)
    c.args.size feed0 (g.S.Source.feed c.run_script-stop.new.source) (g.K.Sink.held c.args.sink.now) (g.K.Sink.held c.put_opened.new.sink) (g.K.Sink.held c.run_script-stop.new.sink) (g.K.Sink.held c.put_last.new.sink)
    c.run_script-stop.result (g.K.Sink.faults c.run_script-stop.new.sink) (g.K.Sink.faults c.put_last.new.sink) (events_in c.all_events-front.result.view)
    (record {
      law_a = ((g.met.D.Disk g.world.𝓛 g.world.𝓜 g.world.𝓡 ((λ s x. x), (λ x. x), (λ x. x), (λ x. x))).lawful n.engine.disk);
      law_c = ((g.met.D.Disk g.world.𝓛 g.world.𝓜 g.world.𝓡 ((λ s x. x), (λ x. x), (λ x. x), (λ x. x))).lawful c.run_script-stop.new.engine.disk);
      law_1 = ((g.met.D.Disk g.world.𝓛 g.world.𝓜 g.world.𝓡 ((λ s x. x), (λ x. x), (λ x. x), (λ x. x))).lawful c.put_last.new.engine.disk);
      g = o.opening;
      first = (memory_in c.put_opened.new.engine);
      counts = counted;
      few = c.requires.sessions;
      frames = c.requires.frames.0;
      starts = subst (λ m. HasStarted c.args.size s0 sa o.opening m counted) (sym c.put_opened.ensures.same.0) (started c.args.size s0 sa n.engine n.generation n.winners n.undone o);
      keeps = k.keeps;
      any = k.any_moment;
      opened_fits = c.put_opened.ensures.fits;
      put = subst (λ (a : Put). IsPut (first_line counted) a (g.K.Sink.held c.args.sink.now) (g.K.Sink.held c.put_opened.new.sink) sa (g.D.Disk.story c.put_opened.new.engine.disk)) c.in-Done.is c.put_opened.ensures.put;
      reader = c.run_script-stop.new.reader;
      last_memory = (memory_in c.run_script-stop.new.engine);
      runs = whole.0;
      closed = whole.1;
      made = whole.2;
      last = c.put_last.ensures.put;
    })

pub returns-clause-ends : goal.returns-clause-ends
returns-clause-ends g c =
    let s0 = g.D.Disk.story c.args.disk in
    subst (λ d. RunEnds c.args.size c.ended.result (events_in c.all_events-front.result.view) s0 (g.D.Disk.story d) (g.S.Source.feed c.args.source.now) (g.S.Source.feed c.run_script-stop.new.source) (g.K.Sink.held c.args.sink.now) (g.K.Sink.held c.put_last.new.sink) (g.K.Sink.faults c.args.sink.now) (g.K.Sink.faults c.put_last.new.sink)) (sym c.disk_of-2.ensures)
    ((says g c).ends c.ended.result c.ended.ensures (g.K.Sink.faults c.args.sink.now)
    (cause_from (g.K.Sink.faults c.args.sink.now) (g.K.Sink.faults c.put_opened.new.sink) (g.K.Sink.faults c.run_script-stop.new.sink) c.put_opened.result c.run_script-stop.result c.in-Done.is c.put_opened.ensures.cause c.run_script-stop.ensures.cause_write_fault) c.in-Ok-open.ensures.keeps.others)

pub returns-clause-headline : goal.returns-clause-headline
returns-clause-headline g c =
    let s0 = g.D.Disk.story c.args.disk in
    subst (λ d. IsTrue (g.S.Source.feed c.args.source.now).tells → IsTrue (g.K.Sink.held c.args.sink.now).tells → TellsAll c.args.size.sessions s0 → Headline s0 (g.D.Disk.story d) (g.S.Source.feed c.args.source.now).left (added (g.K.Sink.held c.args.sink.now) (g.K.Sink.held c.put_last.new.sink))) (sym c.disk_of-2.ensures)
    (says g c).headline

pub returns-clause-cause_read_fault : goal.returns-clause-cause_read_fault
returns-clause-cause_read_fault g c =
    read_cause (g.S.Source.faults c.args.source.now) (g.S.Source.faults c.run_script-stop.new.source) c.run_script-stop.result c.ended.result c.ended.ensures c.run_script-stop.ensures.cause_read_fault

pub returns-clause-cause_write_fault : goal.returns-clause-cause_write_fault
returns-clause-cause_write_fault g c =
    write_blame (g.K.Sink.faults c.args.sink.now) (g.K.Sink.faults c.run_script-stop.new.sink) (g.K.Sink.faults c.put_last.new.sink) c.run_script-stop.result c.ended.result c.ended.ensures
    (cause_from (g.K.Sink.faults c.args.sink.now) (g.K.Sink.faults c.put_opened.new.sink) (g.K.Sink.faults c.run_script-stop.new.sink) c.put_opened.result c.run_script-stop.result c.in-Done.is c.put_opened.ensures.cause c.run_script-stop.ensures.cause_write_fault) c.put_last.ensures.later

pub returns-clause-cause_disk_fault : goal.returns-clause-cause_disk_fault
returns-clause-cause_disk_fault g c =
    let faults = g.D.Disk.faults in
    disk_cause (faults c.args.disk) (faults c.put_opened.new.engine.disk) (faults c.run_script-stop.new.engine.disk) (faults c.disk_of-2.result) c.run_script-stop.result c.ended.result c.ended.ensures
    (c.put_opened.ensures.same.2 ∙ c.in-Ok-open.ensures.no_fault) (ap faults c.disk_of-2.ensures ∙ c.put_last.ensures.same.2) c.run_script-stop.ensures.cause_disk_fault
