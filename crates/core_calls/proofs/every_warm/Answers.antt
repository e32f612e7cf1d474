use Rattle.core_calls.proofs.WarmLemmas.{every_warm}
use Rattle.core_calls.proofs.every_warm.Goals as goal

pub returns : goal.returns
returns c = every_warm
