use Rattle.disk_runs.proofs.every_rest.Goals as goal
use Rattle.disk_runs.proofs.StandLemmas.{every_rest}

pub returns : goal.returns
returns g c = every_rest c.every_kept.ensures c.every_prefix.ensures c.every_sealed.ensures (g.D.Disk.story c.args.now.now)
