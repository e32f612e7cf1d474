use Rattle.image_laws.proofs.every_base.Goals as goal
use Rattle.image_laws.proofs.BaseLemmas.{every_base}

pub returns : goal.returns
returns c = every_base
