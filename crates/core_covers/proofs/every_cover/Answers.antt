use Rattle.core_covers.proofs.every_cover.Goals as goal
use Rattle.core_covers.proofs.CoverLemmas.{every_cover}

pub returns : goal.returns
returns c = every_cover c.every_change.ensures c.every_rise.ensures
