use Rattle.map_model.proofs.worked_pairs.Goals as goal
use Rattle.map_model.proofs.PairLemmas.{worked_pairs}

pub returns : goal.returns
returns c = worked_pairs
