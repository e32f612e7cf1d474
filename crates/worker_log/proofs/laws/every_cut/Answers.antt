use Rattle.worker_log.proofs.laws.every_cut.Goals as goal
use Rattle.worker_log.proofs.CutLemmas.{every_cut}

pub returns : goal.returns
returns c = every_cut
