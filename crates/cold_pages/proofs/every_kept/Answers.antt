use Rattle.cold_pages.proofs.every_kept.Goals as goal
use Rattle.cold_pages.proofs.KeptLemmas.{every_kept}

pub returns : goal.returns
returns c = every_kept
