use Rattle.disk_runs.proofs.every_read.Goals as goal
use Rattle.disk_runs.proofs.ReadLemmas.{every_read}

pub returns : goal.returns
returns g c = every_read c.every_kept.ensures c.every_prefix.ensures c.every_sealed.ensures (g.D.Disk.story c.args.now.now)
