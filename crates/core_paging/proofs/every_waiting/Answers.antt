use Rattle.core_paging.proofs.every_waiting.Goals as goal
use Rattle.core_paging.proofs.Laws.{every_waiting}

pub returns : goal.returns
returns c = every_waiting
