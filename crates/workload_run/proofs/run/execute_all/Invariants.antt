use Rattle.std.proofs.Common.{◌≡◌, ◌+◌, [], ℕ, true, List, None, length}
use Rattle.call_parts.specs.core_state.Openings.{Opening}
use Rattle.call_parts.specs.core_calls.Durables.{durables, moments}
use Rattle.engine_front.specs.Fronts.{events_in}
use Rattle.engine_front.specs.declared.calls.Next.TheVariants.{Line}
use Rattle.map_model.specs.declared.call.Call.{Call}
use Rattle.script_run.specs.Runs.{Standing}
use Rattle.workload_run.specs.Inside.{Both, Goes, IsAt, IsTally}
use Rattle.workload_run.proofs.run.execute_all.Given as goal

abbrev pub invariant-loop-taken : goal.invariant-loop-taken
invariant-loop-taken g l =
    let E = g.E.Calls in
    let D = g.D.Disk in
    record {
      -- the lines that were executed
      far : (done : List (ℕ × Call)) × (length done + 1 ≡ l.taken) × IsAt l.fn.number l.fn.count (E.sessions l.fn.engine.engine) done l.plan.lines l.plan.stage
          × ((o : Opening) → E.in_run l.fn.engine.engine o [] (durables o (moments [])) → IsTally l.fn.engine.tally [] → (others : List (ℕ × Call))
          → Goes (Standing (Both (E.in_run l.engine.engine o) l.engine.tally) (events_in l.events.view)) done others None (E.sessions l.fn.engine.engine) (E.group l.fn.engine.engine) o (E.memory l.fn.engine.engine) (E.memory l.engine.engine) (D.story (E.disk l.fn.engine.engine)) (D.story (E.disk l.engine.engine)));
      works : E.works l.engine.engine ≡ true;
      next : E.next l.engine.engine ≡ Line;
      sessions : E.sessions l.engine.engine ≡ E.sessions l.fn.engine.engine;
      group : E.group l.engine.engine ≡ E.group l.fn.engine.engine;
      disk : D.faults (E.disk l.engine.engine) ≡ D.faults (E.disk l.fn.engine.engine);
    }
