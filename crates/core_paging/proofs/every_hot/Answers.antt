use Rattle.core_paging.proofs.every_hot.Goals as goal
use Rattle.core_paging.proofs.Laws.{every_hot}

pub returns : goal.returns
returns c = every_hot
