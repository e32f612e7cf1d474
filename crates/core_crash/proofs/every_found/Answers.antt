use Rattle.core_crash.proofs.every_found.Goals as goal
use Rattle.core_crash.proofs.Reaches.{every_found}

pub returns : goal.returns
returns c = every_found
