use Rattle.tidy_rules.proofs.TidyLemmas.{every_tidy}
use Rattle.tidy_rules.proofs.every_tidy.Goals as goal

pub returns : goal.returns
returns c = every_tidy
