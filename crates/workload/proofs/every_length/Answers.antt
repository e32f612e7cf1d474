use Rattle.workload.proofs.LawLemmas.{every_length}
use Rattle.workload.proofs.every_length.Goals as goal

pub returns : goal.returns
returns c = every_length
