use Rattle.map_model.proofs.every_script.Goals as goal
use Rattle.map_model.proofs.PairLemmas.{every_script}

pub returns : goal.returns
returns c = every_script
