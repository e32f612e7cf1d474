use Rattle.row_image.proofs.every_sight.Goals as goal
use Rattle.row_image.proofs.Standing.{every_sight}

pub returns : goal.returns
returns c = every_sight
