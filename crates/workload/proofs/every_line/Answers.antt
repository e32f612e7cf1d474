use Rattle.workload.proofs.LawLemmas.{every_line}
use Rattle.workload.proofs.every_line.Goals as goal

pub returns : goal.returns
returns c = every_line
