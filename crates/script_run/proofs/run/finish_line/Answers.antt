use Rattle.std.proofs.Common.{◌<◌, ◌∷◌, ◌∙◌, ℕ, suc, cond, List, Some, refl, sym, subst}
use Rattle.call_parts.specs.core_calls.Durables.{durables, moments}
use Rattle.call_parts.specs.core_calls.Fronts.{Done}
use Rattle.script_run.specs.Inside.{AnsweredTo, AnswersRun, IsNewest, LineRuns, is_pair}
use Rattle.script_run.specs.declared.stop.Stop.TheVariants.{DiskFault, WriteFault}
use Rattle.script_run.proofs.FitLemmas.{behind_pair, fewer_pairs}
use Rattle.script_run.proofs.StepLemmas.{answered_then, answers_then, behind_any, first_answer, line_then, stopped_line}
use Rattle.script_run.proofs.StopLemmas.{ok_no_err}
use Rattle.engine_front.specs.Fronts.{events_in}
use Rattle.script_run.specs.Runs.{Standing}
use Rattle.script_run.proofs.run.finish_line.Goals as goal

pub pairs-init : goal.pairs-init
pairs-init g c =
    let E = g.E.Calls in
    let e0 = c.args.engine.now in
    record {
      runs = λ o y earlier run newest. first_answer c.laws.ensures (E.group e0) o y earlier (E.memory e0) (g.K.Sink.held c.args.sink.now) (g.D.Disk.story (E.disk e0)) c.told.ensures.lawful (Standing (E.in_run e0 o) (events_in c.args.events.now.view)) run c.args.session c.args.answer newest;
      works = c.requires.works;
      next = c.requires.next;
      sessions = refl;
      group = refl;
      writing = refl;
      disk = refl;
    }

pub end_line-requires-clause-no_pair : goal.end_line-requires-clause-no_pair
end_line-requires-clause-no_pair g c κs held = sym c.is_pair.ensures ∙ c.if-not-is_pair.true

pub scan_on-requires-clause-next : goal.scan_on-requires-clause-next
scan_on-requires-clause-next g c κs held = c.pairs.invariant.next ∙ behind_pair c.pairs.newest (sym c.is_pair.ensures ∙ c.if-not-is_pair.false)

pub pairs-preserved : goal.pairs-preserved
pairs-preserved g c =
    let E = g.E.Calls in
    let D = g.D.Disk in
    let held = g.K.Sink.held in
    let e0 = c.args.engine.now in
    let e1 = c.pairs.engine in
    let e2 = c.scan_on.new.engine in
    let was = c.pairs.invariant in
    let step = c.in-Ok.ensures in
    let all = c.scan_on.ensures in
    let a = c.in-Ok.next in
    record {
      runs = λ o y earlier run newest.
          let r = was.runs o y earlier run newest in
          let P : List Done → Type 0 = λ ws. E.in_run e1 o ws (durables o (moments ws)) → IsNewest c.args.session c.pairs.newest ws
          → AnsweredTo (Standing (E.in_run e2 o) (events_in c.scan_on.new.events.view)) c.args.session a (E.group e0) o ws (E.memory e1) (E.memory e2) (held c.pairs.sink) (held c.scan_on.new.sink) (D.story (E.disk e1)) (D.story (E.disk e2)) in
          answered_then c.laws.ensures (E.group e0) o (y ∷ earlier) (E.memory e0) (E.memory e1) (E.memory e2) (held c.args.sink.now) (held c.pairs.sink) (held c.scan_on.new.sink) (D.story (E.disk e0)) (D.story (E.disk e1)) (D.story (E.disk e2))
          (Standing (E.in_run e1 o) (events_in c.pairs.events.view)) (Standing (E.in_run e2 o) (events_in c.scan_on.new.events.view)) r.run c.args.session a
          (behind_any P (λ z zs stands is. subst (λ (n : ℕ). AnsweredTo (Standing (E.in_run e2 o) (events_in c.scan_on.new.events.view)) c.args.session a n o (z ∷ zs) (E.memory e1) (E.memory e2) (held c.pairs.sink) (held c.scan_on.new.sink) (D.story (E.disk e1)) (D.story (E.disk e2))) was.group
          (step.runs o z zs stands is.0)) r.run.newer y earlier r.run.stands r.newest);
      works = step.works;
      next = step.next;
      sessions = all.sizes.0 ∙ was.sessions;
      group = all.sizes.1 ∙ was.group;
      writing = all.cause_write_fault.calm (ok_no_err c.scan_on.result a WriteFault c.in-Ok.is) ∙ was.writing;
      disk = all.cause_disk_fault.calm (ok_no_err c.scan_on.result a DiskFault c.in-Ok.is) ∙ was.disk;
    }

pub pairs-smaller : goal.pairs-smaller
pairs-smaller g c =
    let left = g.E.Calls.pairs_left in
    let new : ℕ = left c.scan_on.new.engine in
    let old : ℕ = left c.pairs.engine in
    subst (λ b. cond (is_pair c.in-Ok.next) (suc new) 0 < cond b (suc old) 0) (sym (sym c.is_pair.ensures ∙ c.if-not-is_pair.false)) (fewer_pairs (is_pair c.in-Ok.next) new old (c.in-Ok.ensures).fewer)

pub returns-in-Err-clause-runs : goal.returns-in-Err-clause-runs
returns-in-Err-clause-runs g c o y earlier run newest =
    let E = g.E.Calls in
    let D = g.D.Disk in
    let held = g.K.Sink.held in
    let e0 = c.args.engine.now in
    let e1 = c.pairs.engine in
    let e2 = c.scan_on.new.engine in
    let was = c.pairs.invariant in
    let stop = c.in-Err.stop in
    let r = was.runs o y earlier run newest in
    let P : List Done → Type 0 = λ ws. E.in_run e1 o ws (durables o (moments ws)) → IsNewest c.args.session c.pairs.newest ws
    → AnswersRun (Standing (E.in_run e2 o) (events_in c.scan_on.new.events.view)) (Some stop) (E.group e0) o ws (E.memory e1) (E.memory e2) (held c.pairs.sink) (held c.scan_on.new.sink) (D.story (E.disk e1)) (D.story (E.disk e2)) in
    stopped_line (Standing (E.in_run e2 o) (events_in c.scan_on.new.events.view)) stop (E.group e0) o (y ∷ earlier) (E.memory e0) (E.memory e2) (held c.args.sink.now) (held c.scan_on.new.sink) (D.story (E.disk e0)) (D.story (E.disk e2))
    (answers_then c.laws.ensures (E.group e0) o (y ∷ earlier) (E.memory e0) (E.memory e1) (E.memory e2) (held c.args.sink.now) (held c.pairs.sink) (held c.scan_on.new.sink) (D.story (E.disk e0)) (D.story (E.disk e1)) (D.story (E.disk e2))
    (Standing (E.in_run e1 o) (events_in c.pairs.events.view)) (Standing (E.in_run e2 o) (events_in c.scan_on.new.events.view)) r.run (Some stop)
    (behind_any P (λ z zs stands is. subst (λ (n : ℕ). AnswersRun (Standing (E.in_run e2 o) (events_in c.scan_on.new.events.view)) (Some stop) n o (z ∷ zs) (E.memory e1) (E.memory e2) (held c.pairs.sink) (held c.scan_on.new.sink) (D.story (E.disk e1)) (D.story (E.disk e2))) was.group
    ((c.in-Err.ensures).ends o z zs stands is.0)) r.run.newer y earlier r.run.stands r.newest))

pub returns-then-not-is_pair-clause-runs : goal.returns-then-not-is_pair-clause-runs
returns-then-not-is_pair-clause-runs g c o y earlier run newest =
    let E = g.E.Calls in
    let D = g.D.Disk in
    let held = g.K.Sink.held in
    let e0 = c.args.engine.now in
    let e1 = c.pairs.engine in
    let e2 = c.end_line.new.engine in
    let was = c.pairs.invariant in
    let stop = c.end_line.result in
    let r = was.runs o y earlier run newest in
    let P : List Done → Type 0 = λ ws. E.in_run e1 o ws (durables o (moments ws)) → IsNewest c.args.session c.pairs.newest ws
    → LineRuns (Standing (E.in_run e2 o) (events_in c.end_line.new.events.view)) stop (E.group e0) o ws (E.memory e1) (E.memory e2) (held c.pairs.sink) (held c.end_line.new.sink) (D.story (E.disk e1)) (D.story (E.disk e2)) in
    line_then c.laws.ensures (E.group e0) o (y ∷ earlier) (E.memory e0) (E.memory e1) (E.memory e2) (held c.args.sink.now) (held c.pairs.sink) (held c.end_line.new.sink) (D.story (E.disk e0)) (D.story (E.disk e1)) (D.story (E.disk e2))
    (Standing (E.in_run e1 o) (events_in c.pairs.events.view)) (Standing (E.in_run e2 o) (events_in c.end_line.new.events.view)) r.run stop
    (behind_any P (λ z zs stands is. subst (λ (n : ℕ). LineRuns (Standing (E.in_run e2 o) (events_in c.end_line.new.events.view)) stop n o (z ∷ zs) (E.memory e1) (E.memory e2) (held c.pairs.sink) (held c.end_line.new.sink) (D.story (E.disk e1)) (D.story (E.disk e2))) was.group
    (c.end_line.ensures.runs o z zs stands is)) r.run.newer y earlier r.run.stands r.newest)
