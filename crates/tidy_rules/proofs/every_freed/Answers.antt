use Rattle.tidy_rules.proofs.FreedLemmas.{every_freed}
use Rattle.tidy_rules.proofs.every_freed.Goals as goal

pub returns : goal.returns
returns c = every_freed
