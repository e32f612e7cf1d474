use Rattle.recovery.proofs.StrayLemmas.{every_clean}
use Rattle.recovery.proofs.every_clean.Goals as goal

pub returns : goal.returns
returns c = every_clean
