use Rattle.disk_runs.proofs.LineLemmas.{every_master_count}
use Rattle.disk_runs.proofs.every_master_count.Goals as goal

pub returns : goal.returns
returns c = every_master_count
