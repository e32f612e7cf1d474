use Rattle.disk_runs.proofs.every_master_write.Goals as goal
use Rattle.disk_runs.proofs.NextLemmas.{every_master_write}

pub returns : goal.returns
returns g c = every_master_write c.every_kept.ensures c.every_prefix.ensures c.every_sealed.ensures (g.D.Disk.story c.args.old.now) (g.D.Disk.story c.args.new.now)
