use Rattle.run_tests.proofs.TieLemmas as ties
use Rattle.run_tests.proofs.every_conflict_is_aborted.Goals as goal

pub returns : goal.returns
returns g c = ties.every_conflict_is_aborted (g.D.Disk.story c.args.old.now) (g.D.Disk.story c.args.new.now)
