use Rattle.disk_runs.proofs.LineLemmas.{every_fair}
use Rattle.disk_runs.proofs.every_fair.Goals as goal

pub returns : goal.returns
returns g c = every_fair (g.D.Disk.story c.args.now.now)
