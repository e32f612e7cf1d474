use Rattle.core_crash.proofs.worked_example.Goals as goal
use Rattle.core_crash.proofs.ByHand.{worked}

pub returns : goal.returns
returns c = worked
