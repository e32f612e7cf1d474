use Rattle.session_state.proofs.CutLemmas.{every_cut}
use Rattle.session_state.proofs.laws.every_cut.Goals as goal

pub returns : goal.returns
returns c = every_cut
