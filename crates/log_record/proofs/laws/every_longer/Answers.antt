use Rattle.log_record.proofs.laws.every_longer.Goals as goal
use Rattle.log_record.proofs.ReadingLemmas.{every_longer}

pub returns : goal.returns
returns c = every_longer
