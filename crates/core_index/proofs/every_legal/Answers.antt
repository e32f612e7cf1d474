use Rattle.core_index.proofs.every_legal.Goals as goal
use Rattle.core_index.proofs.Legal.{every_legal}

pub returns : goal.returns
returns c = every_legal
