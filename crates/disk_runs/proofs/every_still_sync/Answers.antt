use Rattle.disk_runs.proofs.NextLemmas.{every_still_sync}
use Rattle.disk_runs.proofs.every_still_sync.Goals as goal

pub returns : goal.returns
returns g c = every_still_sync c.every_version.ensures (g.D.Disk.story c.args.now.now)
