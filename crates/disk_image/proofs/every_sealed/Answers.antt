use Rattle.disk_image.proofs.every_sealed.Goals as goal
use Rattle.disk_image.proofs.BlockInLemmas.{every_sealed}

pub returns : goal.returns
returns c = every_sealed
