use Rattle.core_covers.proofs.every_increment.Goals as goal
use Rattle.core_covers.proofs.SaveLemmas.{every_increment}

pub returns : goal.returns
returns c = every_increment c.every_change.ensures
