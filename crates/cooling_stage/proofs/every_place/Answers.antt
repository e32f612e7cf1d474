use Rattle.cooling_stage.proofs.WalkLemmas.{every_place}
use Rattle.cooling_stage.proofs.every_place.Goals as goal

pub returns : goal.returns
returns c = every_place
