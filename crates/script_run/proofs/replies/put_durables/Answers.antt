use Rattle.std.proofs.Common.{◌≡◌, ◌++◌, ◌∷◌, refl, sym, ap, ◌∙◌}
use Rattle.call_parts.specs.core_state.Steps.{state_after}
use Rattle.call_parts.specs.core_calls.Durables.{due}
use Rattle.call_parts.specs.core_calls.Fronts.{front}
use Rattle.lean_edge.specs.declared.sink.Put.TheVariants.{Done, Failed}
use Rattle.engine_front.specs.Turns.{name_of}
use Rattle.script_run.proofs.DueLemmas.{none_taken, one_taken, one_failed}
use Rattle.script_run.proofs.replies.put_durables.Goals as goal

pub lines-init : goal.lines-init
lines-init g c =
    let E = g.E.Calls in
    let D = g.D.Disk in
    record {
      says = λ o xs names run. none_taken (due o (state_after o (front xs))) names (E.in_run c.args.engine.now o xs) (g.K.Sink.held c.args.sink.now) (D.story (E.disk c.args.engine.now)) c.told.ensures.lawful run;
      works = c.requires.works;
      next = refl;
      memory = refl;
      faults = refl;
      sessions = refl;
      group = refl;
      writing = refl;
    }

pub lines-preserved : goal.lines-preserved
lines-preserved g c =
    let E = g.E.Calls in
    let D = g.D.Disk in
    let held = g.K.Sink.held in
    let was = c.lines.invariant in
    let next = c.next_durable.ensures in
    let put = c.put_durable.ensures in
    record {
      says = λ o xs names run.
          let t = was.says o xs names run in
          let took = (c.in-Some.ensures).taken o xs (t.taken ++ names) t.stands in
          one_taken (due o (state_after o (front xs))) names (E.in_run c.lines.engine o xs) (E.in_run c.put_durable.new.engine o xs) (held c.args.sink.now) (held c.lines.sink) (held c.put_durable.new.sink)
          (D.story (E.disk c.args.engine.now)) (D.story (E.disk c.lines.engine)) (D.story (E.disk c.put_durable.new.engine)) t (name_of c.in-Some.durable) took.0 put.fits
          (D.story (E.disk c.next_durable.new.self)) (ap D.story next.same.2) (c.in-Done.ensures).put (put.noted c.in-Done.is) (put.in_run o xs (name_of c.in-Some.durable ∷ (t.taken ++ names)) took.1);
      works = put.same.1 ∙ (next.same.1 ∙ was.works);
      next = put.same.3 ∙ ((c.in-Some.ensures).next ∙ was.next);
      memory = put.same.0 ∙ (next.same.0 ∙ was.memory);
      faults = put.same.2 ∙ (ap D.faults next.same.2 ∙ was.faults);
      sessions = put.sizes.0 ∙ (next.sizes.0 ∙ was.sessions);
      group = put.sizes.1 ∙ (next.sizes.1 ∙ was.group);
      writing = put.cause.calm (λ e. let clash : Done ≡ Failed = sym c.in-Done.is ∙ e in cc) ∙ was.writing;
    }

pub returns-in_default-put_durable-clause-says : goal.returns-in_default-put_durable-clause-says
returns-in_default-put_durable-clause-says g c o xs names run =
    let E = g.E.Calls in
    let D = g.D.Disk in
    let held = g.K.Sink.held in
    let put = c.put_durable.ensures in
    let t = c.lines.invariant.says o xs names run in
    let took = (c.in-Some.ensures).taken o xs (t.taken ++ names) t.stands in
    one_failed (due o (state_after o (front xs))) names (E.in_run c.lines.engine o xs) (E.in_run c.put_durable.new.engine o xs) (held c.args.sink.now) (held c.lines.sink) (held c.put_durable.new.sink)
    (D.story (E.disk c.args.engine.now)) (D.story (E.disk c.lines.engine)) (D.story (E.disk c.put_durable.new.engine)) t (name_of c.in-Some.durable) took.0 put.fits
    (ap (λ e. D.story (E.disk e)) (put.not_noted (c.in_default-put_durable).is) ∙ ap D.story c.next_durable.ensures.same.2) (c.in_default-put_durable.ensures).put (put.in_run o xs (name_of c.in-Some.durable ∷ (t.taken ++ names)) took.1)
