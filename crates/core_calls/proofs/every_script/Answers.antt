use Rattle.core_calls.proofs.LineLemmas.{every_script}
use Rattle.core_calls.proofs.every_script.Goals as goal

pub returns : goal.returns
returns c = every_script c.every_script.ensures c.every_count.ensures c.every_printed.ensures
