use Rattle.std.proofs.Common.{◌≡◌, true, List}
use Rattle.call_parts.specs.core_state.Openings.{Opening}
use Rattle.call_parts.specs.core_state.Steps.{state_after}
use Rattle.call_parts.specs.core_calls.Durables.{due}
use Rattle.call_parts.specs.core_calls.Fronts.{Done, front}
use Rattle.map_model.specs.Journals.{Name}
use Rattle.script_run.specs.Inside.{Taking}
use Rattle.script_run.proofs.replies.put_durables.Given as goal

abbrev pub invariant-lines : goal.invariant-lines
invariant-lines g l =
    let E = g.E.Calls in
    let D = g.D.Disk in
    let K = g.K.Sink in
    record {
      says : (o : Opening) (xs : List Done) (names : List Name) → E.in_run l.fn.engine o xs names
          → Taking (due o (state_after o (front xs))) (E.in_run l.engine o xs) names (K.held l.fn.sink) (K.held l.sink) (D.story (E.disk l.fn.engine)) (D.story (E.disk l.engine));
      works : E.works l.engine ≡ true;
      next : E.next l.engine ≡ E.next l.fn.engine;
      memory : E.memory l.engine ≡ E.memory l.fn.engine;
      faults : D.faults (E.disk l.engine) ≡ D.faults (E.disk l.fn.engine);
      sessions : E.sessions l.engine ≡ E.sessions l.fn.engine;
      group : E.group l.engine ≡ E.group l.fn.engine;
      writing : K.faults l.sink ≡ K.faults l.fn.sink;
    }

abbrev pub decreases-lines : goal.decreases-lines
decreases-lines g l = g.E.Calls.waiting l.engine
