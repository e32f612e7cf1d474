use Rattle.core_calls.proofs.LineCountLemmas.{every_line_count}
use Rattle.core_calls.proofs.every_line_count.Goals as goal

pub returns : goal.returns
returns c = every_line_count c.every_durable.ensures
