use Rattle.core_index.proofs.every_map.Goals as goal
use Rattle.core_index.proofs.Legal.{every_map}

pub returns : goal.returns
returns c = every_map
