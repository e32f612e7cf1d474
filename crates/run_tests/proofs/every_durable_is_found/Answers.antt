use Rattle.run_tests.proofs.RuledOutLemmas as ruled
use Rattle.run_tests.proofs.every_durable_is_found.Goals as goal

pub returns : goal.returns
returns g c = ruled.every_durable_is_found (g.D.Disk.story c.args.disk.now)
