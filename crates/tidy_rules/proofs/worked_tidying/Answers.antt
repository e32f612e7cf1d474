use Rattle.tidy_rules.proofs.ByHand.{tidying}
use Rattle.tidy_rules.proofs.worked_tidying.Goals as goal

pub returns : goal.returns
returns c = tidying
