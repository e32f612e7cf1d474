use Rattle.page_pool.proofs.every_chill.Goals as goal
use Rattle.page_pool.proofs.Queueing.{every_chill}

pub returns : goal.returns
returns c = every_chill
