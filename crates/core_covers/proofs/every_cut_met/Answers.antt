use Rattle.core_covers.proofs.every_cut_met.Goals as goal
use Rattle.core_covers.proofs.CutLemmas.{every_cut_met}

pub returns : goal.returns
returns c = every_cut_met c.every_change.ensures
