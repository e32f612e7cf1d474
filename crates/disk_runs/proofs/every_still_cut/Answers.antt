use Rattle.disk_runs.proofs.every_still_cut.Goals as goal
use Rattle.disk_runs.proofs.RingLemmas.{every_still_cut}

pub returns : goal.returns
returns g c = every_still_cut c.every_passed.ensures c.every_version.ensures (g.D.Disk.story c.args.now.now)
