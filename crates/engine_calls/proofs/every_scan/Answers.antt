use Rattle.engine_calls.proofs.every_scan.Goals as goal
use Rattle.engine_calls.proofs.ScanLemmas.{every_scan}

pub returns : goal.returns
returns g c = every_scan c.every_version.ensures (g.D.Disk.story c.args.old.now) (g.D.Disk.story c.args.new.now)
