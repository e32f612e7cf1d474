use Rattle.transcripts.proofs.AbortLemmas.{aborts}
use Rattle.transcripts.proofs.every_abort.Goals as goal

pub returns : goal.returns
returns c = aborts
