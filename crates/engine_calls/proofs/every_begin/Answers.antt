use Rattle.engine_calls.proofs.every_begin.Goals as goal
use Rattle.engine_calls.proofs.BeginLemmas.{every_begin}

pub returns : goal.returns
returns g c = every_begin c.every_version.ensures (g.D.Disk.story c.args.old.now) (g.D.Disk.story c.args.new.now)
