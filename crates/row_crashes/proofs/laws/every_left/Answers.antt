use Rattle.row_crashes.proofs.LeftLemmas.{every_left}
use Rattle.row_crashes.proofs.laws.every_left.Goals as goal

pub returns : goal.returns
returns c = every_left c.every_held.ensures
