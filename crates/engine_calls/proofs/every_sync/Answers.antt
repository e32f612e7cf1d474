use Rattle.engine_calls.proofs.every_sync.Goals as goal
use Rattle.engine_calls.proofs.SyncLemmas.{every_sync}

pub returns : goal.returns
returns g c = every_sync (g.D.Disk.story c.args.old.now) (g.D.Disk.story c.args.new.now)
