use Rattle.lean_bytes.proofs.NumberLemmas.{every_number}
use Rattle.lean_bytes.proofs.every_number.Goals as goal

pub returns : goal.returns
returns c = every_number
