use Rattle.core_paging.proofs.every_kind.Goals as goal
use Rattle.core_paging.proofs.Laws.{every_kind}

pub returns : goal.returns
returns c = every_kind
