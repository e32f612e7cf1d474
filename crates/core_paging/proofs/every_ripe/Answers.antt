use Rattle.core_paging.proofs.every_ripe.Goals as goal
use Rattle.core_paging.proofs.Laws.{every_ripe}

pub returns : goal.returns
returns c = every_ripe
