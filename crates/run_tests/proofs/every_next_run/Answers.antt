use Rattle.run_tests.proofs.NextLemmas as next
use Rattle.run_tests.proofs.every_next_run.Goals as goal

pub returns : goal.returns
returns c = next.every_next_run c.every_area.ensures c.every_moment.ensures
