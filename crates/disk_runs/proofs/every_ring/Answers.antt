use Rattle.disk_runs.proofs.every_ring.Goals as goal
use Rattle.disk_runs.proofs.RingLemmas.{every_ring}

pub returns : goal.returns
returns g c = every_ring c.every_passed.ensures (g.D.Disk.story c.args.now.now)
