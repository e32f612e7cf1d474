use Rattle.engine_calls.proofs.every_get.Goals as goal
use Rattle.engine_calls.proofs.GetLemmas.{every_get}

pub returns : goal.returns
returns g c = every_get c.every_version.ensures (g.D.Disk.story c.args.old.now) (g.D.Disk.story c.args.new.now)
