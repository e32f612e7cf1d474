use Rattle.std.proofs.Common.{◌≡◌, ◌≤◌, ◌+◌, ◌-◌, ◌^◌, ℕ, None, Some, is_some, true≢false, refl, sym, ap, ◌∙◌, subst, arith}
use Rattle.script_run.specs.Inside.{Stepped}
use Rattle.engine_front.specs.Fronts.{events_in}
use Rattle.script_run.specs.Runs.{works_behind, Standing}
use Rattle.script_run.proofs.StepLemmas.{first_step}
use Rattle.script_run.proofs.ThenLemmas.{same_sizes, stepped_then}
use Rattle.script_run.proofs.run.run_script.Goals as goal

pub loop-number-init : goal.loop-number-init
loop-number-init g c =
    let E = g.E.Calls in
    let D = g.D.Disk in
    let e0 = c.args.engine.now in
    record {
      runs = λ o xs start seen run was.
          first_step c.laws.ensures (E.sessions e0) (E.group e0) o xs 0 1 refl start (g.S.Source.feed c.args.source.now) seen c.args.reader.now (E.memory e0) (g.K.Sink.held c.args.sink.now) (D.story (E.disk e0)) c.told.ensures.lawful (Standing (E.in_run e0 o) (events_in c.args.events.now.view)) (omega arith) run was;
      works = c.requires.works;
      next = c.requires.next;
      sessions = refl;
      group = refl;
      reading = refl;
      writing = refl;
      disk = refl;
    }

pub loop-number-preserved : goal.loop-number-preserved
loop-number-preserved g c =
    let E = g.E.Calls in
    let D = g.D.Disk in
    let e0 = c.args.engine.now in
    let e1 = c.loop-number.engine in
    let e2 = c.take_step.new.engine in
    let was_so = c.loop-number.invariant in
    let step = c.take_step.ensures in
    record {
      runs = λ o xs start seen run was.
          let a = was_so.runs o xs start seen run was in
          let n : ℕ = c.loop-number.number - 1 in
          let f1 = g.S.Source.feed c.loop-number.source in
          let f2 = g.S.Source.feed c.take_step.new.source in
          let h0 = g.K.Sink.held c.args.sink.now in
          let h1 = g.K.Sink.held c.loop-number.sink in
          let h2 = g.K.Sink.held c.take_step.new.sink in
          let s0 = D.story (E.disk e0) in
          let s1 = D.story (E.disk e1) in
          let s2 = D.story (E.disk e2) in
          let P : ℕ → Type 0 = λ k. Stepped (Standing (E.in_run e2 o) (events_in c.take_step.new.events.view)) k None (E.sessions e0) (E.group e0) o xs 0 start seen (E.memory e0) (E.memory e2) c.take_step.new.reader f2 h0 h2 s0 s2 in
          let same : 1 + n ≡ (c.loop-number.number + 1) - 1 = let low : 1 ≤ c.loop-number.number = c.loop-number.auto.number in omega arith in
          subst P same (stepped_then c.laws.ensures (E.sessions e0) (E.group e0) o xs start f1 f2 seen (E.memory e0) (E.memory e1) (E.memory e2) c.loop-number.reader c.take_step.new.reader h0 h1 h2 s0 s1 s2 None n (Standing (E.in_run e1 o) (events_in c.loop-number.events.view)) (Standing (E.in_run e2 o) (events_in c.take_step.new.events.view)) a 1
          (λ ys more stands reads. same_sizes (Standing (E.in_run e2 o) (events_in c.take_step.new.events.view)) 1 None (E.sessions e1) (E.sessions e0) (E.group e1) (E.group e0) o ys n start f2 more (E.memory e1) (E.memory e2) c.take_step.new.reader h1 h2 s1 s2 was_so.sessions was_so.group
          ((c.in_default.ensures).runs o ys start more stands reads)));
      works = step.works ∙ ap works_behind c.in_default.is;
      next = step.next (λ e. true≢false (sym (ap is_some e) ∙ ap is_some c.in_default.is)) (ap works_behind c.in_default.is);
      sessions = step.sizes.0 ∙ was_so.sessions;
      group = step.sizes.1 ∙ was_so.group;
      reading = step.cause_read_fault.calm (λ e. true≢false (sym (ap is_some e) ∙ ap is_some c.in_default.is)) ∙ was_so.reading;
      writing = step.cause_write_fault.calm (λ e. true≢false (sym (ap is_some e) ∙ ap is_some c.in_default.is)) ∙ was_so.writing;
      disk = step.cause_disk_fault.calm (λ e. true≢false (sym (ap is_some e) ∙ ap is_some c.in_default.is)) ∙ was_so.disk;
    }

pub returns-in-Some-clause-runs : goal.returns-in-Some-clause-runs
returns-in-Some-clause-runs g c o xs start seen run was =
    let E = g.E.Calls in
    let D = g.D.Disk in
    let held = g.K.Sink.held in
    let e0 = c.args.engine.now in
    let e1 = c.loop-number.engine in
    let e2 = c.take_step.new.engine in
    let was_so = c.loop-number.invariant in
    let n : ℕ = c.loop-number.number - 1 in
    let f2 = g.S.Source.feed c.take_step.new.source in
    let all = stepped_then c.laws.ensures (E.sessions e0) (E.group e0) o xs start (g.S.Source.feed c.loop-number.source) f2 seen (E.memory e0) (E.memory e1) (E.memory e2) c.loop-number.reader c.take_step.new.reader
    (held c.args.sink.now) (held c.loop-number.sink) (held c.take_step.new.sink) (D.story (E.disk e0)) (D.story (E.disk e1)) (D.story (E.disk e2))
    (Some c.in-Some.stop) n (Standing (E.in_run e1 o) (events_in c.loop-number.events.view)) (Standing (E.in_run e2 o) (events_in c.take_step.new.events.view)) (was_so.runs o xs start seen run was) 1
    (λ ys more stands reads. same_sizes (Standing (E.in_run e2 o) (events_in c.take_step.new.events.view)) 1 (Some c.in-Some.stop) (E.sessions e1) (E.sessions e0) (E.group e1) (E.group e0) o ys n start f2 more (E.memory e1) (E.memory e2) c.take_step.new.reader (held c.loop-number.sink) (held c.take_step.new.sink)
    (D.story (E.disk e1)) (D.story (E.disk e2)) was_so.sessions was_so.group ((c.in-Some.ensures).runs o ys start more stands reads)) in
    (all.run, all.stands)

pub returns-clause-runs : goal.returns-clause-runs
returns-clause-runs g c o xs start seen run was =
    let E = g.E.Calls in
    let D = g.D.Disk in
    let held = g.K.Sink.held in
    let e0 = c.args.engine.now in
    let e1 = c.loop-number.engine in
    let e2 = c.last_step.new.engine in
    let was_so = c.loop-number.invariant in
    let n : ℕ = 2 ^ 40 - 1 in
    let f1 = g.S.Source.feed c.loop-number.source in
    let f2 = g.S.Source.feed c.last_step.new.source in
    let h0 = held c.args.sink.now in
    let h1 = held c.loop-number.sink in
    let h2 = held c.last_step.new.sink in
    let s0 = D.story (E.disk e0) in
    let s1 = D.story (E.disk e1) in
    let s2 = D.story (E.disk e2) in
    let P : ℕ → Type 0 = λ k. Stepped (Standing (E.in_run e1 o) (events_in c.loop-number.events.view)) k None (E.sessions e0) (E.group e0) o xs 0 start seen (E.memory e0) (E.memory e1) c.loop-number.reader f1 h0 h1 s0 s1 in
    let end : c.loop-number.number - 1 ≡ 2 ^ 40 - 1 = omega (arith, c.loop-number-test.false, c.loop-number.auto.number-end) in
    let a = subst P end (was_so.runs o xs start seen run was) in
    let all = stepped_then c.laws.ensures (E.sessions e0) (E.group e0) o xs start f1 f2 seen (E.memory e0) (E.memory e1) (E.memory e2) c.loop-number.reader c.last_step.new.reader h0 h1 h2 s0 s1 s2
    (Some c.last_step.result) n (Standing (E.in_run e1 o) (events_in c.loop-number.events.view)) (Standing (E.in_run e2 o) (events_in c.last_step.new.events.view)) a 1
    (λ ys more stands reads. same_sizes (Standing (E.in_run e2 o) (events_in c.last_step.new.events.view)) 1 (Some c.last_step.result) (E.sessions e1) (E.sessions e0) (E.group e1) (E.group e0) o ys n start f2 more (E.memory e1) (E.memory e2) c.last_step.new.reader h1 h2 s1 s2 was_so.sessions was_so.group
    (c.last_step.ensures.runs o ys start more stands reads)) in
    (all.run, all.stands)
