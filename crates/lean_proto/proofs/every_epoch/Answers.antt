use Rattle.lean_proto.proofs.every_epoch.Goals as goal
use Rattle.lean_proto.proofs.Entering.{every_epoch}

pub returns : goal.returns
returns c = every_epoch
