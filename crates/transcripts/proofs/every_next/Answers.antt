use Rattle.transcripts.proofs.NextLemmas.{next_laws}
use Rattle.transcripts.proofs.every_next.Goals as goal

pub returns : goal.returns
returns c = next_laws
