use Rattle.rfa_model.proofs.every_need.Goals as goal
use Rattle.rfa_model.proofs.NeedLemmas.{every_need}

pub returns : goal.returns
returns c = every_need
