use Rattle.row_numbers.proofs.every_clock.Goals as goal
use Rattle.row_numbers.proofs.ViewLemmas.{every_clock}

pub returns : goal.returns
returns c = every_clock
