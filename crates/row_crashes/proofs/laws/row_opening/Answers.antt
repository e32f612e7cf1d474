use Rattle.row_crashes.proofs.OpeningLemmas.{row_opening}
use Rattle.row_crashes.proofs.laws.row_opening.Goals as goal

pub returns : goal.returns
returns c = row_opening
