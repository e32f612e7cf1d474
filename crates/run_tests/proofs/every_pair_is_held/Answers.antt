use Rattle.run_tests.proofs.TieLemmas as ties
use Rattle.run_tests.proofs.every_pair_is_held.Goals as goal

pub returns : goal.returns
returns g c = ties.every_pair_is_held (g.D.Disk.story c.args.old.now) (g.D.Disk.story c.args.new.now)
