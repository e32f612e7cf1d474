use Rattle.core_covers.proofs.every_sync.Goals as goal
use Rattle.core_covers.proofs.LowLemmas.{every_sync}

pub returns : goal.returns
returns c = every_sync c.every_low.ensures c.every_rise.ensures
