use Rattle.transcripts.proofs.NextLemmas.{part}
use Rattle.transcripts.proofs.every_part.Goals as goal

pub returns : goal.returns
returns c = part
