use Rattle.image_model.proofs.every_damage.Goals as goal
use Rattle.image_model.proofs.DamageLemmas.{every_damage}

pub returns : goal.returns
returns c = every_damage
