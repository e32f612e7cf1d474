use Rattle.disk_runs.proofs.MomentLemmas.{every_moment}
use Rattle.disk_runs.proofs.every_moment.Goals as goal

pub returns : goal.returns
returns g c = every_moment (g.D.Disk.story c.args.from.now) (g.D.Disk.story c.args.old.now) (g.D.Disk.story c.args.new.now)
