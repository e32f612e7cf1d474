use Rattle.engine_calls.proofs.every_commit.Goals as goal
use Rattle.engine_calls.proofs.CommitLemmas.{every_commit}

pub returns : goal.returns
returns g c = every_commit c.every_version.ensures (g.D.Disk.story c.args.old.now) (g.D.Disk.story c.args.now.now) (g.D.Disk.story c.args.mid.now) (g.D.Disk.story c.args.new.now)
