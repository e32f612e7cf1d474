use Rattle.core_crash.proofs.every_ripe.Goals as goal
use Rattle.core_crash.proofs.RipeLemmas.{every_ripe}

pub returns : goal.returns
returns c = every_ripe
