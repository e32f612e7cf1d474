use Rattle.log_record.proofs.laws.every_record_in.Goals as goal
use Rattle.log_record.proofs.ReadingLemmas.{every_record_in}

pub returns : goal.returns
returns c = every_record_in
