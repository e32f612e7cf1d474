use Rattle.engine_calls.proofs.every_coming.Goals as goal
use Rattle.engine_calls.proofs.ComingLemmas.{every_coming}

pub returns : goal.returns
returns c = every_coming
