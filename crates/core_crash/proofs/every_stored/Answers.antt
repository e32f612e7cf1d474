use Rattle.core_crash.proofs.every_stored.Goals as goal
use Rattle.core_crash.proofs.Recovery.{every_stored}

pub returns : goal.returns
returns c = every_stored
