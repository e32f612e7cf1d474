use Rattle.row_image.proofs.every_pair.Goals as goal
use Rattle.row_image.proofs.Naming.{every_pair}

pub returns : goal.returns
returns c = every_pair
