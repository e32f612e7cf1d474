use Rattle.disk_runs.proofs.every_master.Goals as goal
use Rattle.disk_runs.proofs.NextLemmas.{every_master}

pub returns : goal.returns
returns g c = every_master c.every_kept.ensures c.every_prefix.ensures c.every_sealed.ensures (g.D.Disk.story c.args.old.now) (g.D.Disk.story c.args.mid.now) (g.D.Disk.story c.args.new.now)
