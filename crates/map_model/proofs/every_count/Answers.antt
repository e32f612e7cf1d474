use Rattle.map_model.proofs.every_count.Goals as goal
use Rattle.map_model.proofs.CountLemmas.{every_count}

pub returns : goal.returns
returns c = every_count
