use Rattle.std.proofs.Common.{◌≡◌, ◌∷◌, suc, true, cond, List}
use Rattle.call_parts.specs.core_state.Openings.{Opening}
use Rattle.call_parts.specs.core_calls.Durables.{durables, moments}
use Rattle.call_parts.specs.core_calls.Fronts.{Done}
use Rattle.engine_front.specs.Turns.{behind_answer, behind_durables}
use Rattle.script_run.specs.Inside.{AnsweredTo, IsNewest, is_pair}
use Rattle.engine_front.specs.Fronts.{events_in}
use Rattle.script_run.specs.Runs.{Standing}
use Rattle.script_run.proofs.run.finish_line.Given as goal

abbrev pub invariant-pairs : goal.invariant-pairs
invariant-pairs g l =
    let E = g.E.Calls in
    let D = g.D.Disk in
    let K = g.K.Sink in
    record {
      runs : (o : Opening) (y : Done) (earlier : List Done) → E.in_run l.fn.engine o (y ∷ earlier) (durables o (moments (y ∷ earlier))) → IsNewest l.fn.session l.fn.answer (y ∷ earlier)
          → AnsweredTo (Standing (E.in_run l.engine o) (events_in l.events.view)) l.fn.session l.newest (E.group l.fn.engine) o (y ∷ earlier) (E.memory l.fn.engine) (E.memory l.engine) (K.held l.fn.sink) (K.held l.sink) (D.story (E.disk l.fn.engine)) (D.story (E.disk l.engine));
      works : E.works l.engine ≡ true;
      next : E.next l.engine ≡ behind_durables (behind_answer l.newest);
      sessions : E.sessions l.engine ≡ E.sessions l.fn.engine;
      group : E.group l.engine ≡ E.group l.fn.engine;
      writing : K.faults l.sink ≡ K.faults l.fn.sink;
      disk : D.faults (E.disk l.engine) ≡ D.faults (E.disk l.fn.engine);
    }

-- how many pairs may still come, and one more for the answer behind them
abbrev pub decreases-pairs : goal.decreases-pairs
decreases-pairs g l = cond (is_pair l.newest) (suc (g.E.Calls.pairs_left l.engine)) 0
