use Rattle.map_model.proofs.every_round_script.Goals as goal
use Rattle.map_model.proofs.PairLemmas.{every_round_script}

pub returns : goal.returns
returns c = every_round_script
