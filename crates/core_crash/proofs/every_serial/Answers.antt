use Rattle.core_crash.proofs.every_serial.Goals as goal
use Rattle.core_crash.proofs.Recovery.{every_serial}

pub returns : goal.returns
returns c = every_serial
