use Rattle.rfa_model.proofs.every_known.Goals as goal
use Rattle.rfa_model.proofs.KnowLemmas.{every_known}

pub returns : goal.returns
returns c = every_known
