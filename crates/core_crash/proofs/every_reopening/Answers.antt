use Rattle.core_crash.proofs.every_reopening.Goals as goal
use Rattle.core_crash.proofs.Reopening.{every_reopening}

pub returns : goal.returns
returns c = every_reopening
