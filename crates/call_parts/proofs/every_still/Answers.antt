use Rattle.call_parts.proofs.StillLemmas.{every_still}
use Rattle.call_parts.proofs.every_still.Goals as goal

pub returns : goal.returns
returns g c = every_still (g.D.Disk.story c.args.old.now) (g.D.Disk.story c.args.new.now)
