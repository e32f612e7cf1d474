use Rattle.engine_calls.proofs.every_run.Goals as goal
use Rattle.engine_calls.proofs.RunLemmas.{every_run}

pub returns : goal.returns
returns g c = every_run c.every_shown.ensures c.every_run_crash.ensures c.every_agreement.ensures c.every_kept.ensures c.every_prefix.ensures c.every_sealed.ensures (g.D.Disk.story c.args.from.now) (g.D.Disk.story c.args.old.now) (g.D.Disk.story c.args.new.now) (g.D.Disk.story c.args.out.now)
