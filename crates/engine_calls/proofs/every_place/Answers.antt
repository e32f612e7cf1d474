use Rattle.engine_calls.proofs.every_place.Goals as goal
use Rattle.engine_calls.proofs.PlaceLemmas.{every_place}

pub returns : goal.returns
returns g c = every_place c.every_kept.ensures c.every_prefix.ensures c.every_sealed.ensures (g.D.Disk.story c.args.old.now) (g.D.Disk.story c.args.mid.now) (g.D.Disk.story c.args.new.now)
