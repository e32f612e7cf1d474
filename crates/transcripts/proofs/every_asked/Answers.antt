use Rattle.transcripts.proofs.TranscriptLemmas.{every_asked}
use Rattle.transcripts.proofs.every_asked.Goals as goal

pub returns : goal.returns
returns c = every_asked
