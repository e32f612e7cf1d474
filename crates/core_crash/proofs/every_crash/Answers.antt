use Rattle.core_crash.proofs.every_crash.Goals as goal
use Rattle.core_crash.proofs.Recovery.{every_crash}

pub returns : goal.returns
returns c = every_crash
