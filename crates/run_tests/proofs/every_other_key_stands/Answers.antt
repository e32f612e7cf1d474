use Rattle.run_tests.proofs.RuledOutLemmas as ruled
use Rattle.run_tests.proofs.every_other_key_stands.Goals as goal

pub returns : goal.returns
returns g c = ruled.every_other_key_stands (g.D.Disk.story c.args.disk.now)
