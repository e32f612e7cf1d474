use Rattle.core_index.proofs.every_walk.Goals as goal
use Rattle.core_index.proofs.WalkLemmas.{every_walk}

pub returns : goal.returns
returns c = every_walk
