use Rattle.std.proofs.Common.{◌++◌, ◌∙◌, List, ap, append-nil}
use Rattle.paged_scans.specs.core_state.Events.{Event}
use Rattle.paged_scans.specs.core_calls.Fronts.{front}
use Rattle.engine_front.specs.Fronts.{events_in}
use Rattle.paged_scans.specs.rows_trait.declared.view.View.{View}
use Rattle.buffered_engine.proofs.engine.Engine.close.Goals as goal

pub returns-clause-events : goal.returns-clause-events
returns-clause-events g c o xs names run =
    let ties = run.tied.ties 0 in
    ap (λ (v : View). events_in v) c.take_apart.ensures.front ∙ (ap (λ s. events_in s.view) c.self.view_is ∙ (ties.seen ∙ (ap (λ (es : List Event). front xs ++ es) (run.tied.begun 0) ∙ append-nil (front xs))))
