use Rattle.engine_calls.proofs.every_abort.Goals as goal
use Rattle.engine_calls.proofs.AbortLemmas.{every_abort}

pub returns : goal.returns
returns g c = every_abort c.every_version.ensures (g.D.Disk.story c.args.old.now) (g.D.Disk.story c.args.mid.now) (g.D.Disk.story c.args.new.now)
