use Rattle.run_crashes.proofs.every_put.Goals as goal
use Rattle.run_crashes.proofs.PutLemmas.{every_put}

pub returns : goal.returns
returns g c = every_put c.every_kept.ensures c.every_prefix.ensures c.every_sealed.ensures (g.D.Disk.story c.args.now.now)
