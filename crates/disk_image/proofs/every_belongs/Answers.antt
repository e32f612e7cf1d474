use Rattle.disk_image.proofs.every_belongs.Goals as goal
use Rattle.disk_image.proofs.BlockInLemmas.{every_belongs}

pub returns : goal.returns
returns c = every_belongs
