use Rattle.disk_runs.proofs.MomentLemmas.{every_among}
use Rattle.disk_runs.proofs.every_among.Goals as goal

pub returns : goal.returns
returns c = every_among
