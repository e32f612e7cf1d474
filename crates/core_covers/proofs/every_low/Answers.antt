use Rattle.core_covers.proofs.every_low.Goals as goal
use Rattle.core_covers.proofs.LowLemmas.{every_low}

pub returns : goal.returns
returns c = every_low
