use Rattle.core_covers.proofs.every_base_cover.Goals as goal
use Rattle.core_covers.proofs.CoverLemmas.{every_base_cover}

pub returns : goal.returns
returns c = every_base_cover
