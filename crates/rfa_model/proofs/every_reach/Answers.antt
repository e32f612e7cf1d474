use Rattle.rfa_model.proofs.every_reach.Goals as goal
use Rattle.rfa_model.proofs.ReachLemmas.{every_reach}

pub returns : goal.returns
returns c = every_reach
