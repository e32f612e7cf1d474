use Rattle.disk_runs.proofs.every_settled.Goals as goal
use Rattle.disk_runs.proofs.SaveStandLemmas.{every_settled}

pub returns : goal.returns
returns g c = every_settled c.every_kept.ensures c.every_prefix.ensures c.every_sealed.ensures c.every_version.ensures (g.D.Disk.story c.args.old.now) (g.D.Disk.story c.args.new.now)
