use Rattle.call_parts.proofs.ByHand.{worked}
use Rattle.call_parts.proofs.worked.Goals as goal

pub returns : goal.returns
returns g c = worked (g.D.Disk.story c.args.now.now) c.every_step.ensures c.every_join.ensures
