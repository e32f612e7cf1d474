use Rattle.transcripts.proofs.AskedLemmas.{reading}
use Rattle.transcripts.proofs.every_reading.Goals as goal

pub returns : goal.returns
returns c = reading
