use Rattle.session_state.proofs.SyncLemmas.{every_synced}
use Rattle.session_state.proofs.laws.every_synced.Goals as goal

pub returns : goal.returns
returns c = every_synced
