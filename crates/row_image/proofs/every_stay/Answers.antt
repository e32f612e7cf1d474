use Rattle.row_image.proofs.every_stay.Goals as goal
use Rattle.row_image.proofs.Staying.{every_stay}

pub returns : goal.returns
returns c = every_stay
