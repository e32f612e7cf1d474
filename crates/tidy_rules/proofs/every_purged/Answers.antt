use Rattle.tidy_rules.proofs.PurgeLemmas.{every_purged}
use Rattle.tidy_rules.proofs.every_purged.Goals as goal

pub returns : goal.returns
returns c = every_purged
