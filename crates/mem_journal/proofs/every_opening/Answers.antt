use Rattle.mem_journal.proofs.every_opening.Goals as goal
use Rattle.mem_journal.proofs.OpeningLemmas.{every_opening}

pub returns : goal.returns
returns c = every_opening
