use Rattle.lean_proto.proofs.every_stood.Goals as goal
use Rattle.lean_proto.proofs.Standing.{every_stood}

pub returns : goal.returns
returns c = every_stood
