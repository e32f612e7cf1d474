use Rattle.engine_calls.proofs.every_refusal.Goals as goal
use Rattle.engine_calls.proofs.RefusalLemmas.{every_refusal}

pub returns : goal.returns
returns g c = every_refusal (g.D.Disk.story c.args.old.now) (g.D.Disk.story c.args.new.now)
