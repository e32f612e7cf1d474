use Rattle.row_opening.proofs.every_need.Goals as goal
use Rattle.row_opening.proofs.Same.{every_need}

pub returns : goal.returns
returns c = every_need
