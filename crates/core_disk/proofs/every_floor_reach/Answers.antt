use Rattle.core_disk.proofs.every_floor_reach.Goals as goal
use Rattle.core_disk.proofs.FloorLemmas.{every_floor_reach}

pub returns : goal.returns
returns c = every_floor_reach
