use Rattle.call_parts.proofs.OwnLemmas.{every_own}
use Rattle.call_parts.proofs.every_own.Goals as goal

pub returns : goal.returns
returns g c = every_own c.laws.ensures.reached c.laws.ensures.needs (g.D.Disk.story c.args.old.now) (g.D.Disk.story c.args.new.now)
