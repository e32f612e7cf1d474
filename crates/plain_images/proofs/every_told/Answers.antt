use Rattle.plain_images.proofs.every_told.Goals as goal
use Rattle.plain_images.proofs.ToldLemmas.{every_told}

pub returns : goal.returns
returns c = every_told
