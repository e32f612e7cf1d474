use Rattle.disk_runs.proofs.MomentLemmas.{every_survival}
use Rattle.disk_runs.proofs.every_survival.Goals as goal

pub returns : goal.returns
returns c = every_survival c.every_held.ensures c.every_serial.ensures
