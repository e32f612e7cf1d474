use Rattle.disk_runs.proofs.NextLemmas.{every_next_master}
use Rattle.disk_runs.proofs.every_next_master.Goals as goal

pub returns : goal.returns
returns g c = every_next_master c.every_kept.ensures c.every_prefix.ensures c.every_sealed.ensures (g.D.Disk.story c.args.old.now) (g.D.Disk.story c.args.new.now)
