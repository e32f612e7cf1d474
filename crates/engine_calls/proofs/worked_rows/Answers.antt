use Rattle.engine_calls.proofs.worked_rows.Goals as goal
use Rattle.engine_calls.proofs.RowLemmas.{rows}

pub returns : goal.returns
returns c = rows
