use Rattle.run_tests.proofs.TieLemmas as ties
use Rattle.run_tests.proofs.every_flushed_is_left.Goals as goal

pub returns : goal.returns
returns c = ties.every_flushed_is_left
