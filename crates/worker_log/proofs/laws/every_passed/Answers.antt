use Rattle.worker_log.proofs.laws.every_passed.Goals as goal
use Rattle.worker_log.proofs.PassedLemmas.{every_passed}

pub returns : goal.returns
returns c = every_passed
