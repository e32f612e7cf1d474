use Rattle.disk_runs.proofs.LastingLemmas.{every_lasting}
use Rattle.disk_runs.proofs.every_lasting.Goals as goal

pub returns : goal.returns
returns c = every_lasting c.every_rise.ensures
