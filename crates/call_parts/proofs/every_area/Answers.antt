use Rattle.call_parts.proofs.AreaLemmas.{every_area}
use Rattle.call_parts.proofs.every_area.Goals as goal

pub returns : goal.returns
returns g c = every_area (g.D.Disk.story c.args.old.now) (g.D.Disk.story c.args.new.now)
