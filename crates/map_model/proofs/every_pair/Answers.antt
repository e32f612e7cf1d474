use Rattle.map_model.proofs.every_pair.Goals as goal
use Rattle.map_model.proofs.PairLemmas.{every_pair}

pub returns : goal.returns
returns c = every_pair
