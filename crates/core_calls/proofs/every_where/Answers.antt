use Rattle.core_calls.proofs.WhereLemmas.{every_where}
use Rattle.core_calls.proofs.every_where.Goals as goal

pub returns : goal.returns
returns c = every_where
