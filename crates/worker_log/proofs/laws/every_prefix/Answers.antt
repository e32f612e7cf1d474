use Rattle.worker_log.proofs.laws.every_prefix.Goals as goal
use Rattle.worker_log.proofs.ReadLemmas.{every_prefix}

pub returns : goal.returns
returns c = every_prefix
