use Rattle.transactions.proofs.OtherLemmas.{every_session}
use Rattle.transactions.proofs.every_session.Goals as goal

pub returns : goal.returns
returns c = every_session
