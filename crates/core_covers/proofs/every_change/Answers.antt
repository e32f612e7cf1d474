use Rattle.core_covers.proofs.every_change.Goals as goal
use Rattle.core_covers.proofs.ChangeLemmas.{every_change}

pub returns : goal.returns
returns c = every_change c.every_residence.ensures c.every_rise.ensures
