use Rattle.core_paging.proofs.every_saved.Goals as goal
use Rattle.core_paging.proofs.Laws.{every_saved}

pub returns : goal.returns
returns c = every_saved
