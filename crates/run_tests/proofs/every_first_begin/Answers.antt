use Rattle.run_tests.proofs.RuledOutLemmas as ruled
use Rattle.run_tests.proofs.every_first_begin.Goals as goal

pub returns : goal.returns
returns g c = ruled.every_first_begin c.every_master_in.ensures (g.D.Disk.story c.args.disk.now)
