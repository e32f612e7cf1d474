use Rattle.core_paging.proofs.worked_example.Goals as goal
use Rattle.core_paging.proofs.ByHand.{worked}

pub returns : goal.returns
returns c = worked
