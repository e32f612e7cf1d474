use Rattle.row_opening.proofs.every_reached.Goals as goal
use Rattle.row_opening.proofs.Same.{every_reached}

pub returns : goal.returns
returns c = every_reached
