use Rattle.std.proofs.Common.{◌≡◌, inl, inr, ◌<◌, ◌-◌, ◌+◌, ◌^◌, ◌∷◌, ◌++◌, [], ℕ, false, None, Some, length, refl, sym, ap, ◌∙◌, subst, arith}
use Rattle.std.proofs.lemmas.List.{length-append}
use Rattle.transcripts.specs.Told.{LineFits}
use Rattle.script_run.specs.declared.stop.Stop.TheVariants.{DiskFault}
use Rattle.script_run.specs.Inside.{LineSteps}
use Rattle.engine_front.specs.Fronts.{events_in}
use Rattle.script_run.specs.Runs.{Standing, works_behind}
use Rattle.workload_run.specs.Inside.{Both}
use Rattle.workload_run.specs.Makes.{feed_of, quiet, reader_of}
use Rattle.workload_run.proofs.GoLemmas.{none_yet, one_on}
use Rattle.workload_run.proofs.MadeLemmas.{all_ran, stopped_in}
use Rattle.workload_run.proofs.PlanLemmas.{all_made, at_first, at_next, first_of, next_line, walks_on}
use Rattle.workload_run.proofs.run.execute_all.Goals as goal

pub loop-taken-init : goal.loop-taken-init
loop-taken-init g c =
    let E = g.E.Calls in
    let D = g.D.Disk in
    let e0 = c.args.engine.now.engine in
    record {
      far = (
        [],
        refl,
        at_first c.args.number c.args.count (E.sessions e0) c.new-plan.result.lines c.new-plan.result.stage c.session_count.result c.new-plan.ensures.0 c.session_count.ensures.count c.new-plan.ensures.1,
        λ o run tally others. none_yet c.laws.ensures.run (E.sessions e0) (E.group e0) o (E.memory e0) (D.story (E.disk e0)) c.told.ensures.lawful (Standing (Both (E.in_run e0 o) c.args.engine.now.tally) (events_in c.args.events.now.view)) (run, tally) others,
      );
      works = c.requires.works;
      next = c.requires.next;
      sessions = refl;
      group = refl;
      disk = refl;
    }

pub returns-in_default-clause-runs : goal.returns-in_default-clause-runs
returns-in_default-clause-runs g c o run tally =
    let E = g.E.Calls in
    let D = g.D.Disk in
    let e0 = c.args.engine.now.engine in
    let e1 = c.loop-taken.engine.engine in
    let far = c.loop-taken.invariant.far in
    let plan = c.loop-taken.plan in
    all_ran c.args.number c.args.count (E.sessions e0) (E.group e0) o (E.memory e0) (E.memory e1) (D.story (E.disk e0)) (D.story (E.disk e1)) (E.in_run e1 o) c.loop-taken.engine.tally (events_in c.loop-taken.events.view) far.0
    (all_made c.args.number c.args.count (E.sessions e0) far.0 plan.lines plan.stage (c.in_default.ensures).walking far.2) (far.3 o run tally []) (inl (c.in_default.ensures).ends)

pub execute_line-requires-clause-fits : goal.execute_line-requires-clause-fits
execute_line-requires-clause-fits g c κs held =
    let E = g.E.Calls in
    let e0 = c.args.engine.now.engine in
    let was = c.loop-taken.invariant in
    let plan = c.loop-taken.plan in
    let line = c.in-Some.line in
    let left = c.next.new.self in
    subst (λ (n : ℕ). LineFits n line.session line.call) (sym was.sessions)
    (next_line c.args.number c.args.count (E.sessions e0) was.far.0 plan.lines left.lines c.loop-taken.engine.tally.on line c.laws.ensures.lines c.requires.sessions plan.stage left.stage was.far.2 c.in-Some.ensures).0

pub returns-in-Some-execute_line-clause-runs : goal.returns-in-Some-execute_line-clause-runs
returns-in-Some-execute_line-clause-runs g c o run tally =
    let E = g.E.Calls in
    let D = g.D.Disk in
    let e0 = c.args.engine.now.engine in
    let e1 = c.loop-taken.engine.engine in
    let e2 = c.execute_line.new.engine.engine in
    let was = c.loop-taken.invariant in
    let plan = c.loop-taken.plan in
    let line = c.in-Some.line in
    let left = c.next.new.self in
    let few : length was.far.0 + 1 < 2 ^ 40 = omega (arith, was.far.1, c.loop-taken-test.true) in
    let stop = c.in-Some-execute_line.stop in
    let f = first_of c.args.number c.args.count (E.sessions e0) (was.far.0 ++ (line.session, line.call) ∷ []) left.lines left.stage (at_next c.args.number c.args.count (E.sessions e0) was.far.0 plan.lines left.lines c.loop-taken.engine.tally.on line plan.stage left.stage was.far.2 c.in-Some.ensures) in
    stopped_in c.args.number c.args.count (E.sessions e0) (E.group e0) o (E.memory e0) (E.memory e2) (D.story (E.disk e0)) (D.story (E.disk e2)) (Standing (Both (E.in_run e2 o) c.execute_line.new.engine.tally) (events_in c.execute_line.new.events.view)) (was.far.0 ++ (line.session, line.call) ∷ []) f.others stop f.made
    (one_on c.laws.ensures.run (E.sessions e0) (E.group e0) o (E.memory e0) (D.story (E.disk e0)) (E.in_run e1 o) c.loop-taken.engine.tally (events_in c.loop-taken.events.view) (E.memory e1) (D.story (E.disk e1)) was.far.0 (λ rest. was.far.3 o run tally rest)
    line.session line.call c.loop-taken.engine.tally.on (next_line c.args.number c.args.count (E.sessions e0) was.far.0 plan.lines left.lines c.loop-taken.engine.tally.on line c.laws.ensures.lines c.requires.sessions plan.stage left.stage was.far.2 c.in-Some.ensures).1 refl
    (Some stop) (Standing (Both (E.in_run e2 o) c.execute_line.new.engine.tally) (events_in c.execute_line.new.events.view)) (E.memory e2) (D.story (E.disk e2))
    (λ ys all rest seen both reads. subst (λ (n : ℕ). LineSteps (Standing (Both (E.in_run e2 o) c.execute_line.new.engine.tally) (events_in c.execute_line.new.events.view)) line.session line.call (Some stop) n (E.group e0) o ys (length was.far.0) (feed_of all) seen (E.memory e1) (E.memory e2) (reader_of false) (feed_of rest) quiet quiet (D.story (E.disk e1)) (D.story (E.disk e2))) was.sessions
    (subst (λ (n : ℕ). LineSteps (Standing (Both (E.in_run e2 o) c.execute_line.new.engine.tally) (events_in c.execute_line.new.events.view)) line.session line.call (Some stop) (E.sessions e1) n o ys (length was.far.0) (feed_of all) seen (E.memory e1) (E.memory e2) (reader_of false) (feed_of rest) quiet quiet (D.story (E.disk e1)) (D.story (E.disk e2))) was.group
    ((c.in-Some-execute_line.ensures).runs o ys (length was.far.0) (feed_of all) (feed_of rest) seen (reader_of false) few both reads))) f.others)

pub loop-taken-preserved : goal.loop-taken-preserved
loop-taken-preserved g c =
    let E = g.E.Calls in
    let D = g.D.Disk in
    let e0 = c.args.engine.now.engine in
    let e1 = c.loop-taken.engine.engine in
    let e2 = c.execute_line.new.engine.engine in
    let was = c.loop-taken.invariant in
    let plan = c.loop-taken.plan in
    let line = c.in-Some.line in
    let left = c.next.new.self in
    let few : length was.far.0 + 1 < 2 ^ 40 = omega (arith, was.far.1, c.loop-taken-test.true) in
    let step = c.execute_line.ensures in
    record {
      far = (
        was.far.0 ++ (line.session, line.call) ∷ [],
        (let n : length (was.far.0 ++ (line.session, line.call) ∷ []) ≡ length was.far.0 + 1 = length-append was.far.0 ((line.session, line.call) ∷ []) in omega (arith, n, was.far.1)),
        at_next c.args.number c.args.count (E.sessions e0) was.far.0 plan.lines left.lines c.loop-taken.engine.tally.on line plan.stage left.stage was.far.2 c.in-Some.ensures,
        λ o run tally others. one_on c.laws.ensures.run (E.sessions e0) (E.group e0) o (E.memory e0) (D.story (E.disk e0)) (E.in_run e1 o) c.loop-taken.engine.tally (events_in c.loop-taken.events.view) (E.memory e1) (D.story (E.disk e1)) was.far.0 (λ rest. was.far.3 o run tally rest)
            line.session line.call c.loop-taken.engine.tally.on (next_line c.args.number c.args.count (E.sessions e0) was.far.0 plan.lines left.lines c.loop-taken.engine.tally.on line c.laws.ensures.lines c.requires.sessions plan.stage left.stage was.far.2 c.in-Some.ensures).1 refl
            None (Standing (Both (E.in_run e2 o) c.execute_line.new.engine.tally) (events_in c.execute_line.new.events.view)) (E.memory e2) (D.story (E.disk e2))
            (λ ys all rest seen both reads. subst (λ (n : ℕ). LineSteps (Standing (Both (E.in_run e2 o) c.execute_line.new.engine.tally) (events_in c.execute_line.new.events.view)) line.session line.call None n (E.group e0) o ys (length was.far.0) (feed_of all) seen (E.memory e1) (E.memory e2) (reader_of false) (feed_of rest) quiet quiet (D.story (E.disk e1)) (D.story (E.disk e2))) was.sessions
            (subst (λ (n : ℕ). LineSteps (Standing (Both (E.in_run e2 o) c.execute_line.new.engine.tally) (events_in c.execute_line.new.events.view)) line.session line.call None (E.sessions e1) n o ys (length was.far.0) (feed_of all) seen (E.memory e1) (E.memory e2) (reader_of false) (feed_of rest) quiet quiet (D.story (E.disk e1)) (D.story (E.disk e2))) was.group
            ((c.in_default-execute_line.ensures).runs o ys (length was.far.0) (feed_of all) (feed_of rest) seen (reader_of false) few both reads))) others,
      );
      works = step.works ∙ ap works_behind c.in_default-execute_line.is;
      next = step.next c.in_default-execute_line.is;
      sessions = step.sizes.0 ∙ was.sessions;
      group = step.sizes.1 ∙ was.group;
      disk = step.cause_disk_fault.calm (λ e. let clash : None ≡ Some DiskFault = sym c.in_default-execute_line.is ∙ e in cc) ∙ was.disk;
    }

pub returns-clause-runs : goal.returns-clause-runs
returns-clause-runs g c o run tally =
    let E = g.E.Calls in
    let D = g.D.Disk in
    let e0 = c.args.engine.now.engine in
    let e1 = c.loop-taken.engine.engine in
    let far = c.loop-taken.invariant.far in
    let plan = c.loop-taken.plan in
    let long : length far.0 ≡ 2 ^ 40 - 1 = omega (arith, far.1, c.loop-taken-test.false, c.loop-taken.auto.taken-end) in
    all_ran c.args.number c.args.count (E.sessions e0) (E.group e0) o (E.memory e0) (E.memory e1) (D.story (E.disk e0)) (D.story (E.disk e1)) (E.in_run e1 o) c.loop-taken.engine.tally (events_in c.loop-taken.events.view) far.0
    (all_made c.args.number c.args.count (E.sessions e0) far.0 plan.lines plan.stage (walks_on c.args.number c.args.count (E.sessions e0) c.laws.ensures.lengths c.ranges.count.fits far.0 plan.lines plan.stage long far.2) far.2) (far.3 o run tally []) (inr long)
