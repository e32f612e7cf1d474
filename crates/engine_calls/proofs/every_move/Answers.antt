use Rattle.engine_calls.proofs.MoveLemmas.{every_move}
use Rattle.engine_calls.proofs.every_move.Goals as goal

pub returns : goal.returns
returns g c = every_move c.every_kept.ensures c.every_prefix.ensures c.every_sealed.ensures c.every_version.ensures (g.D.Disk.story c.args.old.now) (g.D.Disk.story c.args.mid.now) (g.D.Disk.story c.args.new.now)
