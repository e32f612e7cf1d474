use Rattle.run_tests.proofs.TieLemmas as ties
use Rattle.run_tests.proofs.every_hand_is_next.Goals as goal

pub returns : goal.returns
returns c = ties.every_hand_is_next
