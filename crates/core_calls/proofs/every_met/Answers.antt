use Rattle.core_calls.proofs.MetLemmas.{every_met}
use Rattle.core_calls.proofs.every_met.Goals as goal

pub returns : goal.returns
returns c = every_met
