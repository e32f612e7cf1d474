use Rattle.std.proofs.Common.{◌≡◌, ◌-◌, ℕ, true, List, None}
use Rattle.call_parts.specs.core_state.Openings.{Opening}
use Rattle.call_parts.specs.core_calls.Durables.{durables, moments}
use Rattle.call_parts.specs.core_calls.Fronts.{Done}
use Rattle.engine_front.specs.declared.calls.Next.TheVariants.{Line}
use Rattle.lean_edge.specs.Outside.{Feed}
use Rattle.script_lang.specs.Reading.{Reading}
use Rattle.script_run.specs.Inside.{Stepped}
use Rattle.engine_front.specs.Fronts.{events_in}
use Rattle.script_run.specs.Runs.{Standing}
use Rattle.script_run.proofs.run.run_script.Given as goal

abbrev pub invariant-loop-number : goal.invariant-loop-number
invariant-loop-number g l =
    let E = g.E.Calls in
    let D = g.D.Disk in
    record {
      runs : (o : Opening) (xs : List Done) (start : Feed) (seen : List ℕ) → E.in_run l.fn.engine o xs (durables o (moments xs)) → Reading start (g.S.Source.feed l.fn.source) l.fn.reader seen
          → Stepped (Standing (E.in_run l.engine o) (events_in l.events.view)) (l.number - 1) None (E.sessions l.fn.engine) (E.group l.fn.engine) o xs 0 start seen (E.memory l.fn.engine) (E.memory l.engine) l.reader (g.S.Source.feed l.source) (g.K.Sink.held l.fn.sink) (g.K.Sink.held l.sink) (D.story (E.disk l.fn.engine)) (D.story (E.disk l.engine));
      works : E.works l.engine ≡ true;
      next : E.next l.engine ≡ Line;
      sessions : E.sessions l.engine ≡ E.sessions l.fn.engine;
      group : E.group l.engine ≡ E.group l.fn.engine;
      reading : g.S.Source.faults l.source ≡ g.S.Source.faults l.fn.source;
      writing : g.K.Sink.faults l.sink ≡ g.K.Sink.faults l.fn.sink;
      disk : D.faults (E.disk l.engine) ≡ D.faults (E.disk l.fn.engine);
    }
