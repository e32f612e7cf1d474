use Rattle.engine_calls.proofs.every_halved.Goals as goal
use Rattle.engine_calls.proofs.HalfLemmas.{every_halved}

pub returns : goal.returns
returns g c = every_halved (g.D.Disk.story c.args.old.now) (g.D.Disk.story c.args.new.now)
