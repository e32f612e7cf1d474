use Rattle.core_commit.proofs.every_floor.Goals as goal
use Rattle.core_commit.proofs.FloorLemmas.{every_floor}

pub returns : goal.returns
returns c = every_floor
