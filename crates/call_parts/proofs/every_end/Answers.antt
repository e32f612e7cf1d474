use Rattle.call_parts.proofs.EndLemmas.{every_end}
use Rattle.call_parts.proofs.every_end.Goals as goal

pub returns : goal.returns
returns g c = every_end (g.D.Disk.story c.args.old.now) (g.D.Disk.story c.args.new.now)
