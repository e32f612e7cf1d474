use Rattle.call_parts.proofs.MemoryLemmas.{every_memory}
use Rattle.call_parts.proofs.every_memory.Goals as goal

pub returns : goal.returns
returns g c = every_memory (g.D.Disk.story c.args.old.now) (g.D.Disk.story c.args.new.now)
