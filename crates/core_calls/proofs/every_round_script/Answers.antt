use Rattle.core_calls.proofs.LineLemmas.{every_round_script}
use Rattle.core_calls.proofs.every_round_script.Goals as goal

pub returns : goal.returns
returns c = every_round_script c.every_round_script.ensures c.every_count.ensures
