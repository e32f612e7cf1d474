use Rattle.session_state.proofs.OtherLemmas.{every_other}
use Rattle.session_state.proofs.laws.every_other.Goals as goal

pub returns : goal.returns
returns c = every_other
