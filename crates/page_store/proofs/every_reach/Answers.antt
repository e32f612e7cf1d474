use Rattle.page_store.proofs.BaseLemmas.{every_reach}
use Rattle.page_store.proofs.every_reach.Goals as goal

pub returns : goal.returns
returns c = every_reach
