use Rattle.core_index.proofs.every_call.Goals as goal
use Rattle.core_index.proofs.Legal.{every_call}

pub returns : goal.returns
returns c = every_call
