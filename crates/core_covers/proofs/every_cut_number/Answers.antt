use Rattle.core_covers.proofs.every_cut_number.Goals as goal
use Rattle.core_covers.proofs.CutLemmas.{every_cut_number}

pub returns : goal.returns
returns c = every_cut_number c.every_first.ensures
