use Rattle.std.proofs.Common.{◌++◌, ◌∙◌, List, ap, append-nil}
use Rattle.paged_scans.specs.core_state.Events.{Event}
use Rattle.paged_scans.specs.core_calls.Fronts.{front}
use Rattle.engine_front.specs.Fronts.{events_in}
use Rattle.paged_scans.specs.rows_trait.declared.view.View.{View}
use Rattle.buffered_engine.proofs.answers.EngineCalls.front.Goals as goal

pub returns : goal.returns
returns g c o xs names run =
    let ties = run.tied.ties 0 in
    ap (λ (v : View). events_in v) c.seen.ensures ∙ (ap (λ s. events_in s.view) c.self.view_is ∙ (ties.seen ∙ (ap (λ (es : List Event). front xs ++ es) (run.tied.begun 0) ∙ append-nil (front xs))))
