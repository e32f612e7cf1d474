use Rattle.run_opening.proofs.every_start.Goals as goal
use Rattle.run_opening.proofs.StartLemmas.{every_start}

pub returns : goal.returns
returns g c = every_start (g.D.Disk.story c.args.now.now) c.every_opened.ensures (g.D.Disk.story c.args.first.now)
