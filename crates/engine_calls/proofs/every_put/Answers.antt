use Rattle.engine_calls.proofs.every_put.Goals as goal
use Rattle.engine_calls.proofs.PutLemmas.{every_put}

pub returns : goal.returns
returns g c = every_put (g.D.Disk.story c.args.old.now) (g.D.Disk.story c.args.mid.now) (g.D.Disk.story c.args.new.now)
