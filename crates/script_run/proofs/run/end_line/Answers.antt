use Rattle.std.proofs.Common.{◌∙◌, refl, sym, ap}
use Rattle.call_parts.specs.core_calls.Deeds.{asked}
use Rattle.map_model.specs.Pairings.{is_last}
use Rattle.script_run.proofs.FitLemmas.{behind_conflict, behind_end, end_last, met_conflict}
use Rattle.script_run.proofs.StepLemmas.{none_follows}
use Rattle.engine_front.specs.Fronts.{events_in}
use Rattle.script_run.specs.Runs.{Standing}
use Rattle.script_run.proofs.run.end_line.Goals as goal

pub returns-then-not-met_conflict-clause-runs : goal.returns-then-not-met_conflict-clause-runs
returns-then-not-met_conflict-clause-runs g c o y earlier run newest =
    let E = g.E.Calls in
    let e0 = c.args.engine.now in
    none_follows c.laws.ensures (E.group e0) o y earlier (E.memory e0) (g.K.Sink.held c.args.sink.now) (g.D.Disk.story (E.disk e0)) c.told.ensures.lawful (Standing (E.in_run e0 o) (events_in c.args.events.now.view)) run
    (ap is_last newest.1 ∙ end_last c.args.newest.now c.requires.no_pair (sym c.met_conflict.ensures ∙ c.if-not-met_conflict.true))

pub returns-then-not-met_conflict-clause-next : goal.returns-then-not-met_conflict-clause-next
returns-then-not-met_conflict-clause-next g c none = c.requires.next ∙ behind_end c.args.newest.now c.requires.no_pair (sym c.met_conflict.ensures ∙ c.if-not-met_conflict.true)

pub abort_hindered-requires-clause-next : goal.abort_hindered-requires-clause-next
abort_hindered-requires-clause-next g c κs held = c.requires.next ∙ behind_conflict c.args.newest.now (sym c.met_conflict.ensures ∙ c.if-not-met_conflict.false)

pub returns-clause-runs : goal.returns-clause-runs
returns-clause-runs g c o y earlier run newest =
    c.abort_hindered.ensures.runs o y earlier (asked y.outcome.deed) run (met_conflict y.outcome.deed (asked y.outcome.deed) c.args.newest.now refl newest.1 (sym c.met_conflict.ensures ∙ c.if-not-met_conflict.false)) newest.0
