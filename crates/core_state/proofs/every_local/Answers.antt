use Rattle.core_state.proofs.every_local.Goals as goal
use Rattle.core_state.proofs.Locality.{every_local}

pub returns : goal.returns
returns c = every_local
