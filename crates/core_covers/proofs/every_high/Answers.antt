use Rattle.core_covers.proofs.every_high.Goals as goal
use Rattle.core_covers.proofs.HighLemmas.{every_high}

pub returns : goal.returns
returns c = every_high c.every_low.ensures c.every_rise.ensures
