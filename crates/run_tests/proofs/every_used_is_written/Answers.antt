use Rattle.run_tests.proofs.TieLemmas as ties
use Rattle.run_tests.proofs.every_used_is_written.Goals as goal

pub returns : goal.returns
returns g c = ties.every_used_is_written (g.D.Disk.story c.args.old.now) (g.D.Disk.story c.args.new.now)
