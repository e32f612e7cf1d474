use Rattle.transcripts.proofs.PrefixLemmas.{every_heard}
use Rattle.transcripts.proofs.every_heard.Goals as goal

pub returns : goal.returns
returns c = every_heard
