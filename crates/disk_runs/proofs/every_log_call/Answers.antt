use Rattle.disk_runs.proofs.every_log_call.Goals as goal
use Rattle.disk_runs.proofs.StandLemmas.{every_log_call}

pub returns : goal.returns
returns g c = every_log_call c.every_kept.ensures c.every_prefix.ensures c.every_sealed.ensures (g.D.Disk.story c.args.old.now) (g.D.Disk.story c.args.new.now)
