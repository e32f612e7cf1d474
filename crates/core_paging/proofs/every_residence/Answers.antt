use Rattle.core_paging.proofs.every_residence.Goals as goal
use Rattle.core_paging.proofs.Laws.{every_residence}

pub returns : goal.returns
returns c = every_residence
