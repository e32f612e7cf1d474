use Rattle.std.proofs.Common.{◌∙◌, sym, ap}
use Rattle.row_walks.specs.Inside.Climbs.{answer_to}
use Rattle.row_walks.proofs.steps.changed.Goals as goal

pub returns-in-Some : goal.returns-in-Some
returns-in-Some c = ap (λ r. answer_to r c.args.at) (sym c.in-Some.is ∙ c.clock_refusal.ensures)

pub returns-in-None : goal.returns-in-None
returns-in-None c = ap (λ r. answer_to r c.args.at) (sym c.in-None.is ∙ c.clock_refusal.ensures)
