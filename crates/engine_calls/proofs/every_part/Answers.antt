use Rattle.engine_calls.proofs.every_part.Goals as goal
use Rattle.engine_calls.proofs.PartLemmas.{every_part}

pub returns : goal.returns
returns g c = every_part c.every_version.ensures c.every_kept.ensures c.every_prefix.ensures c.every_sealed.ensures (g.D.Disk.story c.args.old.now) (g.D.Disk.story c.args.mid.now) (g.D.Disk.story c.args.new.now)
