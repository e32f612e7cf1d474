use Rattle.session_state.proofs.SyncLemmas.{every_flush}
use Rattle.session_state.proofs.laws.every_flush.Goals as goal

pub returns : goal.returns
returns c = every_flush
